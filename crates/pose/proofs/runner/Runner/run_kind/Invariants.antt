use Rattle.std.proofs.Common.{◌≤◌}
use Rattle.pose.proofs.runner.Runner.run_kind.Given as goal

abbrev pub invariant-loop-at : goal.invariant-loop-at
invariant-loop-at g l = l.from ≤ l.at
