use Rattle.std.proofs.Common.{◌≡◌, ◌++◌, map, drop}
use Rattle.script_lines.specs.Text.{out_lines}
use Rattle.script_lines.proofs.render.outs.Given as goal

abbrev pub invariant-loop-frame : goal.invariant-loop-frame
invariant-loop-frame l =
    l.initial.text.items ++ out_lines (map (λ frame. frame.items) l.frames)
    ≡ l.text.items ++ out_lines (map (λ frame. frame.items) (drop l.frame-index l.frames))
