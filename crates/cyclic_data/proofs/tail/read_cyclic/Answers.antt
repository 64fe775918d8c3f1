-- What is read are the octets of the data and the fields, and these octets are read.
use Rattle.std.proofs.Common.{◌≡◌, ℕ, List, length}
use Rattle.wire.proofs.Given.{found, only}
use Rattle.cyclic_data.specs.declared.tail.CyclicTail.{CyclicTail}
use Rattle.cyclic_data.specs.Tail.{IsCyclic, cyclic_of}
use Rattle.cyclic_data.proofs.Cyclic.{cyclic_takes, cyclic_again, cyclic_size, read_short}
use Rattle.cyclic_data.proofs.tail.read_cyclic.Goals as goal

pub returns-clause-found : goal.returns-clause-found
returns-clause-found c =
    found _ (λ (x : List ℕ × CyclicTail). IsCyclic c.args.data_length c.args.bytes.now x) c.cyclic_at.result (cyclic_of c.args.data_length c.args.bytes.now)
    (λ x e. cyclic_takes c.args.data_length c.args.bytes.now x e) c.cyclic_at.ensures

pub returns-clause-only : goal.returns-clause-only
returns-clause-only c = λ value s.
    only _ c.cyclic_at.result (cyclic_of c.args.data_length c.args.bytes.now) value (cyclic_again c.args.data_length c.args.bytes.now value s) c.cyclic_at.ensures

pub returns-clause-short : goal.returns-clause-short
returns-clause-short c = read_short _ c.args.data_length c.args.bytes.now c.cyclic_at.result c.cyclic_at.ensures

pub returns-clause-size : goal.returns-clause-size
returns-clause-size c =
    found _ (λ (x : List ℕ × CyclicTail). length x.0 ≡ c.args.data_length) c.cyclic_at.result (cyclic_of c.args.data_length c.args.bytes.now)
    (λ x e. cyclic_size c.args.data_length c.args.bytes.now x (cyclic_takes c.args.data_length c.args.bytes.now x e)) c.cyclic_at.ensures
