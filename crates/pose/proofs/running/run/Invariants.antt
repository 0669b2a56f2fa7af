use Rattle.std.proofs.Common.{◌≤◌}
use Rattle.pose.proofs.running.run.Given as goal

abbrev pub invariant-loop-at : goal.invariant-loop-at
invariant-loop-at l = l.from ≤ l.at
