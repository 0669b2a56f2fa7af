-- Pairs over a number kind: a number beside how fast it changes. They are a number kind again. Assumes nothing.
use Rattle.std.specs.Prelude.{◌≡◌, refl}
use Rattle.kind.specs.Kinds.{Operations, Laws}
use Rattle.kind.specs.Algebra.{multiplied}
use Rattle.kind.specs.declared.dual.Pair.{Pair}

pub record Dual (M : Type 0) : Type 0 where
  pub value : M
  pub tangent : M

abbrev pub dual_operations : {M : Type 0} → Operations M → Operations (Dual M)
dual_operations o = record {
  zero = record { value = o.zero; tangent = o.zero };
  one = record { value = o.one; tangent = o.zero };
  plus = λ a b. record { value = o.plus a.value b.value; tangent = o.plus a.tangent b.tangent };
  times = λ a b. record { value = o.times a.value b.value; tangent = o.plus (o.times a.value b.tangent) (o.times a.tangent b.value) };
  opposite = λ a. record { value = o.opposite a.value; tangent = o.opposite a.tangent };
  image = λ n. record { value = o.image n; tangent = o.zero };
}

pub dual_path : {M : Type 0} {a b : Dual M} → a.value ≡ b.value → a.tangent ≡ b.tangent → a ≡ b
dual_path p q = λ i. record { value = p i; tangent = q i }

-- the tangent of a product of three, in plain terms: `simp` does not compute a field of `dual_operations o` inside a goal
tangent_assoc : {M : Type 0} {o : Operations M} → Laws o → (a b c a' b' c' : M) → o.plus (o.times (o.times a b) c') (o.times (o.plus (o.times a b') (o.times a' b)) c) ≡ o.plus (o.times a (o.plus (o.times b c') (o.times b' c))) (o.times a' (o.times b c))
tangent_assoc l a b c a' b' c' = simp multiplied

pub dual_laws : {M : Type 0} {o : Operations M} → Laws o → Laws (dual_operations o)
dual_laws l = record {
  plus_comm = λ a b. dual_path (simp multiplied) (simp multiplied);
  plus_assoc = λ a b c. dual_path (simp multiplied) (simp multiplied);
  zero_plus = λ a. dual_path (simp multiplied) (simp multiplied);
  times_comm = λ a b. dual_path (simp multiplied) (simp multiplied);
  times_assoc = λ a b c. dual_path (simp multiplied) (tangent_assoc l _ _ _ _ _ _);
  one_times = λ a. dual_path (simp multiplied) (simp multiplied);
  zero_times = λ a. dual_path (simp multiplied) (simp multiplied);
  times_plus = λ a b c. dual_path (simp multiplied) (simp multiplied);
  opposite_is = λ a. dual_path (l.opposite_is a.value) (simp multiplied);
  image_zero = dual_path l.image_zero refl;
  image_next = λ n. dual_path (l.image_next n) (simp multiplied);
  image_minus = λ n. dual_path (l.image_minus n) (simp multiplied);
}

-- a pair means its parts' meanings
abbrev pub dual : {K M : Type 0} → (K → M) → Pair K → Dual M
dual means p = record { value = means p.value; tangent = means p.tangent }
