-- Whole numbers that are reduced after each operation, as by a remainder or by a cap: a number kind. Assumes nothing.
use Rattle.std.specs.Prelude.{◌≡◌, ℕ, zero, suc, ◌+◌, ◌*◌, ◌/◌, ◌%◌, min, pos, negsuc, refl}
use Rattle.std.proofs.Common.{sym, ap, ◌∙◌, add-zero, zero-add, add_comm, add_assoc, mul_comm, mul_assoc, mul-add, add-mul, mul-one, one-mul, zero-mul, mul_right_comm, add-one, arith}
use mathlib.Core.HLevel.{is_prop→PathP}
use Rattle.std.proofs.Math.Decide.{dec_le}
use Rattle.std.proofs.Math.Nat.{ℕ_set, mod-add-mod, mod-add-div', add-mul-mod_self_right}
use Rattle.kind.specs.Kinds.{Operations, Laws}

-- To reduce an operand first changes no reduced sum and no reduced product.
pub record Reduction (reduce : ℕ → ℕ) : Type 0 where
  pub in_sum : (a b : ℕ) → reduce (reduce a + b) ≡ reduce (a + b)
  pub in_product : (a b : ℕ) → reduce (reduce a * b) ≡ reduce (a * b)

-- A number that is reduced already.
pub record Reduced (reduce : ℕ → ℕ) : Type 0 where
  pub number : ℕ
  pub stays : reduce number ≡ number

pub reduced_path : {reduce : ℕ → ℕ} {a b : Reduced reduce} → a.number ≡ b.number → a ≡ b
reduced_path {reduce} {a} {b} e = λ i. record {
  number = e i;
  stays = is_prop→PathP (λ j. reduce (e j) ≡ e j) (λ j. ℕ_set (reduce (e j)) (e j)) a.stays b.stays i;
}

module _ {reduce : ℕ → ℕ} (is : Reduction reduce) where
  pub again : (n : ℕ) → reduce (reduce n) ≡ reduce n
  again n = sym (ap reduce (add-zero (reduce n))) ∙ is.in_sum n 0 ∙ ap reduce (add-zero n)

  abbrev pub reduced : ℕ → Reduced reduce
  reduced n = record { number = reduce n; stays = again n }

  -- `minus` stands for the opposite of one, and an opposite is a product with it.
  abbrev pub reduced_operations : ℕ → Operations (Reduced reduce)
  reduced_operations minus = record {
    zero = reduced 0;
    one = reduced 1;
    plus = λ a b. reduced (a.number + b.number);
    times = λ a b. reduced (a.number * b.number);
    opposite = λ a. reduced (minus * a.number);
    image = λ z. elim z [ pos n ↦ reduced n | negsuc n ↦ reduced (minus * suc n) ];
  }

  in_sum : (a b : ℕ) → reduce (reduce a + b) ≡ reduce (a + b)
  in_sum = is.in_sum

  in_sum_right : (a b : ℕ) → reduce (a + reduce b) ≡ reduce (a + b)
  in_sum_right a b = ap reduce (add_comm a (reduce b)) ∙ is.in_sum b a ∙ ap reduce (add_comm b a)

  in_product : (a b : ℕ) → reduce (reduce a * b) ≡ reduce (a * b)
  in_product = is.in_product

  in_product_right : (a b : ℕ) → reduce (a * reduce b) ≡ reduce (a * b)
  in_product_right a b = ap reduce (mul_comm a (reduce b)) ∙ is.in_product b a ∙ ap reduce (mul_comm b a)

  -- a sum or product of any numbers, reduced, means the sum or product of their meanings

  pub reduced_plus : (a b : ℕ) → reduced (reduce (a + b)) ≡ reduced (reduce a + reduce b)
  reduced_plus a b = reduced_path (simp (again, in_sum, in_sum_right))

  pub reduced_times : (a b : ℕ) → reduced (reduce (a * b)) ≡ reduced (reduce a * reduce b)
  reduced_times a b = reduced_path (simp (again, in_product, in_product_right))

  pub reduced_laws : (minus : ℕ) → Laws (reduced_operations minus)
  reduced_laws minus = record {
    plus_comm = λ a b. reduced_path (ap reduce (add_comm a.number b.number));
    plus_assoc = λ a b c. reduced_path (simp (in_sum, in_sum_right, add_assoc));
    zero_plus = λ a. reduced_path (simp (in_sum, zero-add) a.stays);
    times_comm = λ a b. reduced_path (ap reduce (mul_comm a.number b.number));
    times_assoc = λ a b c. reduced_path (simp (in_product, in_product_right, mul_assoc));
    one_times = λ a. reduced_path (simp (in_product, one-mul) a.stays);
    zero_times = λ a. reduced_path (simp (in_product, zero-mul));
    times_plus = λ a b c. reduced_path (simp (in_sum, in_sum_right, in_product_right, mul-add));
    opposite_is = λ a. reduced_path (simp (in_product, in_product_right, mul-one));
    image_zero = refl;
    image_next = λ n. reduced_path (simp (in_sum, in_sum_right, add-one));
    image_minus = λ n. reduced_path (simp in_product_right);
  }

-- The two reductions: to the remainder of a number m, and to at most a number c.

in_product_mod : (m a b : ℕ) → (a % m * b) % m ≡ (a * b) % m
in_product_mod m a b =
    sym (add-mul-mod_self_right (a % m * b) (a / m * b) m)
    ∙ ap (λ x. x % m) (ap (λ x. a % m * b + x) (sym (mul_right_comm (a / m) m b)) ∙ sym (add-mul (a % m) (a / m * m) b) ∙ ap (λ x. x * b) (mod-add-div' a m))

pub remainder : (m : ℕ) → Reduction (λ n. n % m)
remainder m = record { in_sum = λ a b. mod-add-mod a m b; in_product = in_product_mod m }

in_product_min : (c a b : ℕ) → min (min a c * b) c ≡ min (a * b) c
in_product_min c a zero = omega arith
in_product_min c a (suc b) =
    let at : (x : ℕ) → min a c ≡ x → min (min a c * suc b) c ≡ min (x * suc b) c = λ x e. ap (λ y. min (y * suc b) c) e in
    elim (dec_le a c) [ yes h ↦ at a (omega arith) | no h ↦ at c (omega arith) ∙ omega arith ]

pub cap : (c : ℕ) → Reduction (λ n. min n c)
cap c = record { in_sum = λ a b. omega arith; in_product = in_product_min c }
