use Rattle.std.proofs.Common.{◌≡◌, vec_len}
use Rattle.pose.proofs.words.each.Given as goal

abbrev pub invariant-loop-word : goal.invariant-loop-word
invariant-loop-word g l = vec_len l.list ≡ l.word-index
