-- What the laws of a number kind give, for proofs about sums of products. Assumes nothing.
use Rattle.std.specs.Prelude.{◌≡◌, pos}
use Rattle.std.proofs.Common.{sym, ap, ap₂, ◌∙◌}
use Rattle.kind.specs.Kinds.{Operations, Laws}

module _ {M : Type 0} {o : Operations M} (l : Laws o) where
  open o use {zero, one, plus as ◌⊕◌, times as ◌⊗◌, opposite}

  infixl 6 ◌⊕◌
  infixl 7 ◌⊗◌
  -- the laws once more, as lemmas that a ruleset can name

  pub plus_comm : (a b : M) → a ⊕ b ≡ b ⊕ a
  plus_comm = l.plus_comm

  pub plus_assoc : (a b c : M) → (a ⊕ b) ⊕ c ≡ a ⊕ (b ⊕ c)
  plus_assoc = l.plus_assoc

  pub zero_plus : (a : M) → zero ⊕ a ≡ a
  zero_plus = l.zero_plus

  pub times_comm : (a b : M) → a ⊗ b ≡ b ⊗ a
  times_comm = l.times_comm

  pub times_assoc : (a b c : M) → (a ⊗ b) ⊗ c ≡ a ⊗ (b ⊗ c)
  times_assoc = l.times_assoc

  pub one_times : (a : M) → one ⊗ a ≡ a
  one_times = l.one_times

  pub zero_times : (a : M) → zero ⊗ a ≡ zero
  zero_times = l.zero_times

  pub times_plus : (a b c : M) → a ⊗ (b ⊕ c) ≡ (a ⊗ b) ⊕ (a ⊗ c)
  times_plus = l.times_plus

  -- the same from the other side

  pub plus_zero : (a : M) → a ⊕ zero ≡ a
  plus_zero a = plus_comm a zero ∙ zero_plus a

  pub times_one : (a : M) → a ⊗ one ≡ a
  times_one a = times_comm a one ∙ one_times a

  pub times_zero : (a : M) → a ⊗ zero ≡ zero
  times_zero a = times_comm a zero ∙ zero_times a

  pub plus_times : (a b c : M) → (a ⊕ b) ⊗ c ≡ (a ⊗ c) ⊕ (b ⊗ c)
  plus_times a b c = times_comm (a ⊕ b) c ∙ times_plus c a b ∙ ap₂ ◌⊕◌ (times_comm c a) (times_comm c b)

  -- the first two of three change places

  pub plus_left : (a b c : M) → a ⊕ (b ⊕ c) ≡ b ⊕ (a ⊕ c)
  plus_left a b c = sym (plus_assoc a b c) ∙ ap (λ x. x ⊕ c) (plus_comm a b) ∙ plus_assoc b a c

  pub times_left : (a b c : M) → a ⊗ (b ⊗ c) ≡ b ⊗ (a ⊗ c)
  times_left a b c = sym (times_assoc a b c) ∙ ap (λ x. x ⊗ c) (times_comm a b) ∙ times_assoc b a c

  pub image_one : o.image (pos 1) ≡ one
  image_one = l.image_next 0 ∙ ap (λ x. x ⊕ one) l.image_zero ∙ zero_plus one

  -- an opposite goes into a sum and out of a product

  pub opposite_zero : opposite zero ≡ zero
  opposite_zero = l.opposite_is zero ∙ times_zero (opposite one)

  pub opposite_plus : (a b : M) → opposite (a ⊕ b) ≡ opposite a ⊕ opposite b
  opposite_plus a b = l.opposite_is (a ⊕ b) ∙ times_plus (opposite one) a b ∙ sym (ap₂ ◌⊕◌ (l.opposite_is a) (l.opposite_is b))

  pub opposite_times : (a b : M) → opposite a ⊗ b ≡ opposite (a ⊗ b)
  opposite_times a b = ap (λ x. x ⊗ b) (l.opposite_is a) ∙ times_assoc (opposite one) a b ∙ sym (l.opposite_is (a ⊗ b))

  pub times_opposite : (a b : M) → a ⊗ opposite b ≡ opposite (a ⊗ b)
  times_opposite a b = times_comm a (opposite b) ∙ opposite_times b a ∙ ap opposite (times_comm b a)

-- `simp multiplied`, with a `Laws o` in scope, multiplies out and sorts both sides of an equation over o's operations,
-- so that what follows from the laws mostly comes out alike. It copes with 25 products of two on a side; past that, go in steps.
pub ruleset multiplied = (zero_plus, plus_zero, one_times, times_one, zero_times, times_zero, opposite_zero, opposite_plus, opposite_times, times_opposite, times_plus, plus_times, plus_assoc, times_assoc, plus_comm, times_comm, plus_left, times_left)

module _ {M : Type 0} {o : Operations M} (l : Laws o) where
  open o use {plus as ◌⊕◌, times as ◌⊗◌}

  infixl 6 ◌⊕◌
  infixl 7 ◌⊗◌
  -- the middle two of four change places

  pub plus_middle : (a b c d : M) → (a ⊕ b) ⊕ (c ⊕ d) ≡ (a ⊕ c) ⊕ (b ⊕ d)
  plus_middle a b c d = simp multiplied

  pub times_middle : (a b c d : M) → (a ⊗ b) ⊗ (c ⊗ d) ≡ (a ⊗ c) ⊗ (b ⊗ d)
  times_middle a b c d = simp multiplied

  pub sum_times_sum : (a b c d : M) → (a ⊕ b) ⊗ (c ⊕ d) ≡ ((a ⊗ c) ⊕ (a ⊗ d)) ⊕ ((b ⊗ c) ⊕ (b ⊗ d))
  sum_times_sum a b c d = simp multiplied
