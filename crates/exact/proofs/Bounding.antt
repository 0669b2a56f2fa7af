-- Ticks are whole numbers modulo 2^64, and sizes bound them. So where the sizes are small, the ticks read as the whole numbers
-- themselves. Assumes nothing.
use Rattle.std.proofs.Common.{◌≡◌, ℕ, zero, suc, ◌+◌, ◌-◌, ◌*◌, ◌%◌, ◌^◌, ◌<◌, ◌≤◌, min, List, length, ℤ, pos, negsuc, ◌+ℤ◌, ◌*ℤ◌, neg_ℤ, nat_abs, sym, refl, ap, ◌∙◌, subst, ap₂, mul_assoc, mul_comm, mul-le-mul, mul_left_comm, arith, w64, SFits, to_z, of_z}
use native.Mathlib.Nat.{mul-mul-mul_comm}
use borrow.Author.Differences.{up, down, sum_is_lem}
use Rattle.std.proofs.lemmas.List.{length-map, length-take-le}
use Rattle.std.proofs.lemmas.Int.{to_z-of_z, ints}
use Rattle.kind.specs.declared.wrapping.Ticks.{Ticks}
use Rattle.kind.specs.Capped.{Capped, size_operations}
use Rattle.kind.specs.Dual.{dual_operations}
use Rattle.kind.specs.Reduced.{cap, reduced_path, reduced_times, remainder}
use Rattle.kind.specs.Wrapping.{Word, tick_operations}
use Rattle.kind.proofs.Words.{tick_image}
use Rattle.sweep.specs.Forward.{paired}
use Rattle.sweep.proofs.Differentiating.{pair_values, slope_is, value_at}
use Rattle.sweep.proofs.Pairing.{paired_length, paired_values}
use Rattle.tape.specs.Rows.{at}
use Rattle.tape.specs.Values.{values}
use Rattle.exact.specs.Theorems.{Bounded, TicksAndSizes}
use Rattle.exact.specs.Wholes.{along, image_pair, point, signed, whole_operations, whole_slope, whole_value}
use Rattle.exact.proofs.Relating.{Both, Related, images_related, register_related, related_pairs}
use Rattle.exact.proofs.WholeLaws.{whole_laws}

-- the word of a whole number, which `omega` reads as `up z - down z`
word_is : (z : ℤ) → (tick_operations.image z).number ≡ (up z + (2 ^ 64 - 1) * down z) % 2 ^ 64
word_is (pos n) = omega arith
word_is (negsuc n) = omega arith

-- To take the word goes through sums, products and opposites.

image_sum : (a b : ℤ) → tick_operations.image (a +ℤ b) ≡ tick_operations.plus (tick_operations.image a) (tick_operations.image b)
image_sum a b = reduced_path (omega (arith, word_is (a +ℤ b), word_is a, word_is b, sum_is_lem a b))

image_minus : (n : ℕ) → (tick_operations.image (neg_ℤ (pos n))).number ≡ ((2 ^ 64 - 1) * n) % 2 ^ 64
image_minus zero = refl
image_minus (suc n) = refl

in_product_right : (a b : ℕ) → (a * (b % 2 ^ 64)) % 2 ^ 64 ≡ (a * b) % 2 ^ 64
in_product_right a b = ap (λ x. x % 2 ^ 64) (mul_comm a (b % 2 ^ 64)) ∙ (remainder (2 ^ 64)).in_product b a ∙ ap (λ x. x % 2 ^ 64) (mul_comm b a)

in_product : (a b : ℕ) → (a % 2 ^ 64 * (b % 2 ^ 64)) % 2 ^ 64 ≡ (a * b) % 2 ^ 64
in_product a b = in_product_right (a % 2 ^ 64) b ∙ (remainder (2 ^ 64)).in_product a b

-- minus one, twice
minus_minus : (n : ℕ) → ((2 ^ 64 - 1) * (2 ^ 64 - 1) * n) % 2 ^ 64 ≡ n % 2 ^ 64
minus_minus n = omega arith

image_opposite : (a : ℤ) → tick_operations.image (neg_ℤ a) ≡ tick_operations.opposite (tick_operations.image a)
image_opposite (pos n) = reduced_path (image_minus n ∙ sym (in_product_right (2 ^ 64 - 1) n))
image_opposite (negsuc n) = reduced_path (sym (in_product_right (2 ^ 64 - 1) ((2 ^ 64 - 1) * suc n) ∙ omega arith))

image_product : (a b : ℤ) → tick_operations.image (a *ℤ b) ≡ tick_operations.times (tick_operations.image a) (tick_operations.image b)
image_product (pos a) (pos b) = reduced_path (sym (in_product a b))
image_product (pos a) (negsuc b) =
    reduced_path (image_minus (a * suc b) ∙ ap (λ x. x % 2 ^ 64) (mul_left_comm (2 ^ 64 - 1) a (suc b)) ∙ sym (in_product a ((2 ^ 64 - 1) * suc b)))
image_product (negsuc a) (pos b) =
    reduced_path (image_minus (suc a * b) ∙ ap (λ x. x % 2 ^ 64) (sym (mul_assoc (2 ^ 64 - 1) (suc a) b)) ∙ sym (in_product ((2 ^ 64 - 1) * suc a) b))
image_product (negsuc a) (negsuc b) =
    reduced_path (sym (in_product ((2 ^ 64 - 1) * suc a) ((2 ^ 64 - 1) * suc b) ∙ ap (λ x. x % 2 ^ 64) (mul-mul-mul_comm (2 ^ 64 - 1) (suc a) (2 ^ 64 - 1) (suc b)) ∙ minus_minus (suc a * suc b)))

-- a word is that of a whole number
abbrev Is : ℤ → Word → Type 0
Is z w = tick_operations.image z ≡ w

words_related : Related Is whole_operations tick_operations
words_related = record {
  zeros = refl;
  sums = λ a b c d r s. image_sum a b ∙ ap₂ tick_operations.plus r s;
  products = λ a b c d r s. image_product a b ∙ ap₂ tick_operations.times r s;
  opposites = λ a c r. image_opposite a ∙ ap tick_operations.opposite r;
  images = λ z. refl;
}

-- a size is at least a whole number's own, or at the cap
abbrev Bounds : ℤ → Capped → Type 0
Bounds z s = min (nat_abs z) (2 ^ 64 - 1) ≤ s.number

capped_product : (x y p q c : ℕ) → min x c ≤ p → min y c ≤ q → min (x * y) c ≤ min (p * q) c
capped_product x y p q c h k =
    let less : min x c * min y c ≤ p * q = mul-le-mul h k in
    let same = ap (λ s. s.number) (reduced_times (cap c) x y) in
    omega arith

sizes_related : Related Bounds whole_operations size_operations
sizes_related = record {
  zeros = omega arith;
  sums = λ a b c d r s. omega (arith, ints);
  products = λ a b c d r s. rw (abs_product a b) (capped_product (nat_abs a) (nat_abs b) c.number d.number (2 ^ 64 - 1) r s);
  opposites = λ a c r. omega (arith, ints);
  images = λ z. bounds_image z;
}
  where
    abs_product : (a b : ℤ) → nat_abs (a *ℤ b) ≡ nat_abs a * nat_abs b
    abs_product (pos a) (pos b) = refl
    abs_product (pos a) (negsuc b) = omega (arith, ints)
    abs_product (negsuc a) (pos b) = omega (arith, ints)
    abs_product (negsuc a) (negsuc b) = refl

    bounds_image : (z : ℤ) → Bounds z (size_operations.image z)
    bounds_image (pos n) = omega arith
    bounds_image (negsuc n) = omega arith

-- what the two say together
bounded : (z : ℤ) (w : Word) (s : Capped) → Is z w → Bounds z s → Bounded z w s
bounded z w s is bounds = record {
  modulo = sym is;
  within = λ h. omega arith;
  read = λ h.
      let small : nat_abs z < 2 ^ 63 = omega arith in
      let fits : SFits w64 z = omega (arith, ints) in
      ap (λ u. to_z w64 u.number) (sym (tick_image z fits ∙ is)) ∙ read_back z fits;
}
  where
    read_back : (z : ℤ) → SFits w64 z → to_z w64 (of_z w64 z % 2 ^ 64) ≡ z
    read_back z fits = let word : of_z w64 z % 2 ^ 64 ≡ of_z w64 z = omega (arith, ints) in ap (to_z w64) word ∙ to_z-of_z w64 z fits

pub signed_length : (n : ℕ) (ts : List Ticks) → n ≤ length ts → length (signed n ts) ≡ n
signed_length n ts h = length-map _ (λ t. t.0) ∙ length-take-le n ts h

pub ticks_and_sizes : TicksAndSizes
ticks_and_sizes q valid given directed r =
    let w = whole_operations in
    let t = q.tape in
    let cs = point q in
    let ds = along q in
    let cs_is : length cs ≡ t.controls = signed_length t.controls q.controls given in
    let ds_is : length ds ≡ t.controls = signed_length t.controls q.direction directed in
    let level : length ds ≡ length cs = ds_is ∙ sym cs_is in
    let pair = at (dual_operations w) (values (dual_operations w) (paired cs ds) t.lines) r in
    let value_is : pair.value ≡ whole_value q r =
    value_at w _ r ∙ ap (λ row. at w row r) (pair_values whole_laws t valid (paired cs ds) (paired_length cs ds level ∙ cs_is) ∙ ap (λ c. values w c t.lines) (paired_values cs ds level)) in
    let tangent_is : pair.tangent ≡ whole_slope q r = slope_is whole_laws t valid cs ds cs_is ds_is r in
    let words = image_pair q tick_operations r in
    let sizes = image_pair q size_operations r in
    let is : Both Is pair words =
    register_related (Both Is) _ _ (related_pairs Is w tick_operations words_related) _ _ t.lines (images_related Is tick_operations words_related cs ds) r in
    let bounds : Both Bounds pair sizes =
    register_related (Both Bounds) _ _ (related_pairs Bounds w size_operations sizes_related) _ _ t.lines (images_related Bounds size_operations sizes_related cs ds) r in (
      subst (λ z. Bounded z words.value sizes.value) value_is (bounded _ words.value sizes.value is.0 bounds.0),
      subst (λ z. Bounded z words.tangent sizes.tangent) tangent_is (bounded _ words.tangent sizes.tangent is.1 bounds.1),
    )
