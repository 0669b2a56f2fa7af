use Rattle.std.proofs.Common.{take}
use Rattle.session.specs.States.{state}
use Rattle.replay.specs.Runs.{Ran}
use Rattle.replay.proofs.runs.make_all.Given as goal

abbrev pub invariant-loop-call : goal.invariant-loop-call
invariant-loop-call g l = Ran g.K.Kind.ops g.K.Kind.means (take l.call-index l.calls) (state l.initial.session) (state l.session)
