-- The loop keeps: the tables are ready, the cursor stands in the input, and number counts the lines before it. Assumes nothing.
use Rattle.std.proofs.Common.{◌≡◌, ◌≤◌, ◌-◌, length}
use Rattle.route.specs.Serving.{ReadyIn}
use Rattle.route.proofs.serve.Given as goal

abbrev pub invariant-loop-cursor : goal.invariant-loop-cursor
invariant-loop-cursor g l = record {
  ready : ReadyIn l.served.net.now l.served.tables l.choice;
  same : l.cursor.file.now ≡ l.input;
  within : l.cursor.at ≤ length l.input;
  line_bound : l.number ≤ l.cursor.at;
}

abbrev pub decreases-loop-cursor : goal.decreases-loop-cursor
decreases-loop-cursor g l = length l.input - l.cursor.at
