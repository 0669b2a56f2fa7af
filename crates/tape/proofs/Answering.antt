-- An answer by the refusal table, made and used. Assumes nothing.
use Rattle.std.proofs.Common.{◌≡◌, ℕ, Some, None, Ok, Err, Option, Result, sym, refl, ap, subst, arith}
use Rattle.tape.specs.declared.refusals.Refusal.{Refusal}
use Rattle.tape.specs.Refusals.{Answered, Notice, notice}

pub accepted : {R : Type 0} (why : Option Notice) (v : R) (same : Type 0) (done : R → Type 0) → why ≡ None → done v → Answered why (Ok v) same done
accepted why v same done e d = subst (λ w. Answered w (Ok v) same done) (sym e) d

pub refused : {R : Type 0} (why : Option Notice) (e : Refusal) (same : Type 0) (done : R → Type 0) → why ≡ Some (notice e) → same → Answered why (Err e) same done
refused why e same done is s = subst (λ w. Answered w (Err e) same done) (sym is) (refl, s)

-- what was answered was not declined
pub not_declined : {R : Type 0} (why : Option Notice) (v : R) (same : Type 0) (done : R → Type 0) → Answered why (Ok v) same done → (why ≡ None) × done v
not_declined (Some e) v same done h = absurd h
not_declined None v same done h = (refl, h)

-- what has no cause to be declined was done
pub carried_out : {R : Type 0} (why : Option Notice) (r : Result R Refusal) (same : Type 0) (done : R → Type 0) → why ≡ None → Answered why r same done → (v : R) × done v
carried_out (Some w) r same done free h = let z : ◌≡◌ {A = ℕ} 0 1 = cc in absurd (omega arith)
carried_out None (Ok v) same done free h = (v, h)
carried_out None (Err e) same done free h = absurd h

-- the one way to use an answer: the call was declined and all is the same, or it was done
pub answered : {R same : Type 0} {done : R → Type 0} (P : Option Notice → Result R Refusal → Type 0) (why : Option Notice) (r : Result R Refusal)
    → ((e : Refusal) → same → P (Some (notice e)) (Err e)) → ((v : R) → why ≡ None → done v → P None (Ok v)) → Answered why r same done → P why r
answered P (Some w) (Ok v) declines does h = absurd h
answered P (Some w) (Err e) declines does h = subst (λ x. P (Some x) (Err e)) h.0 (declines e h.1)
answered P None (Ok v) declines does h = does v refl h
answered P None (Err e) declines does h = absurd h

-- a call that was declined says why
pub why_declined : {R : Type 0} (why : Option Notice) (e : Refusal) (same : Type 0) (done : R → Type 0) → Answered why (Err e) same done → why ≡ Some (notice e)
why_declined (Some w) e same done h = ap Some (sym h.0)
why_declined None e same done h = absurd h

-- an answer that leaves less the same
pub answered_as : {R : Type 0} (why : Option Notice) (r : Result R Refusal) (same less : Type 0) (done : R → Type 0) → (same → less) → Answered why r same done → Answered why r less done
answered_as (Some w) (Ok v) same less done f h = absurd h
answered_as (Some w) (Err e) same less done f h = (h.0, f h.1)
answered_as None (Ok v) same less done f h = h
answered_as None (Err e) same less done f h = absurd h
