-- What a call of a run keeps. Assumes nothing.
use Rattle.std.specs.Prelude.{ℕ, List, fold}
use Rattle.kind.specs.Kinds.{Operations}
use Rattle.session.specs.Books.{Book, feed}
use Rattle.session.specs.declared.calls.Call.{Call}
use Rattle.session.specs.Runs.{Keeps}
use Rattle.session.specs.States.{State}

module _ {K M : Type 0} (o : Operations M) (means : K → M) where
  -- a session in order, whose book is b, is in order after the call, and its book is b with the call entered
  abbrev pub Steps : Call K → State K → State K → Type 0
  Steps call s s' = (room : ℕ) (b : Book M) → Keeps o means room b s → Keeps o means room (feed means room b call) s'

  -- the same of all the calls of a run
  abbrev pub Ran : List (Call K) → State K → State K → Type 0
  Ran calls s s' = (room : ℕ) (b : Book M) → Keeps o means room b s → Keeps o means room (fold (feed means room) b calls) s'
