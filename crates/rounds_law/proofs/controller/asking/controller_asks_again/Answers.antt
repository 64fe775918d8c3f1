use Rattle.rounds_law.proofs.AskingController.{asks_again}
use Rattle.rounds_law.proofs.controller.asking.controller_asks_again.Goals as goal

pub returns : goal.returns
returns c = λ device phase request controller it lasts. asks_again c.args.setup.now device phase request controller it lasts
