-- A relation between two kinds of numbers that every operation keeps is kept by the values of a tape. Assumes nothing.
use Rattle.std.proofs.Common.{ℕ, zero, suc, List, [], ◌∷◌, ◌++◌, map, get_or, ℤ}
use Rattle.kind.specs.Dual.{Dual, dual_operations}
use Rattle.kind.specs.Kinds.{Operations}
use Rattle.sweep.specs.Forward.{paired}
use Rattle.tape.specs.declared.lines.Line.{Line}
use Rattle.tape.specs.declared.lines.Line.TheVariants.{Constant, Add, Subtract, Multiply, Opposite}
use Rattle.tape.specs.Rows.{at}
use Rattle.tape.specs.Values.{line_value, values}
use Rattle.exact.specs.Wholes.{whole_operations}

-- what the operations owe
pub record Related {M N : Type 0} (R : M → N → Type 0) (o : Operations M) (p : Operations N) : Type 0 where
  pub zeros : R o.zero p.zero
  pub sums : (a b : M) (c d : N) → R a c → R b d → R (o.plus a b) (p.plus c d)
  pub products : (a b : M) (c d : N) → R a c → R b d → R (o.times a b) (p.times c d)
  pub opposites : (a : M) (c : N) → R a c → R (o.opposite a) (p.opposite c)
  pub images : (z : ℤ) → R (o.image z) (p.image z)

-- entry by entry
abbrev pub Rows : {M N : Type 0} → (M → N → Type 0) → List M → List N → Type 0
Rows R [] [] = Unit {0}
Rows R [] (y ∷ ys) = ⊥
Rows R (x ∷ xs) [] = ⊥
Rows R (x ∷ xs) (y ∷ ys) = R x y × Rows R xs ys

-- part by part
abbrev pub Both : {M N : Type 0} → (M → N → Type 0) → Dual M → Dual N → Type 0
Both R a b = R a.value b.value × R a.tangent b.tangent

module _ {M N : Type 0} (R : M → N → Type 0) where
  rows_push : (xs : List M) (ys : List N) (x : M) (y : N) → Rows R xs ys → R x y → Rows R (xs ++ (x ∷ [])) (ys ++ (y ∷ []))
  rows_push [] [] x y h r = (r, tt)
  rows_push [] (b ∷ ys) x y h r = elim h [ ]
  rows_push (a ∷ xs) [] x y h r = elim h [ ]
  rows_push (a ∷ xs) (b ∷ ys) x y h r = (h.0, rows_push xs ys x y h.1 r)

  rows_at : (xs : List M) (ys : List N) (i : ℕ) (x : M) (y : N) → Rows R xs ys → R x y → R (get_or xs i x) (get_or ys i y)
  rows_at [] [] i x y h r = r
  rows_at [] (b ∷ ys) i x y h r = elim h [ ]
  rows_at (a ∷ xs) [] i x y h r = elim h [ ]
  rows_at (a ∷ xs) (b ∷ ys) zero x y h r = h.0
  rows_at (a ∷ xs) (b ∷ ys) (suc i) x y h r = rows_at xs ys i x y h.1 r

  module _ (o : Operations M) (p : Operations N) (related : Related R o p) where
    pub related_pairs : Related (Both R) (dual_operations o) (dual_operations p)
    related_pairs = record {
      zeros = (related.zeros, related.zeros);
      sums = λ a b c d r s. (related.sums _ _ _ _ r.0 s.0, related.sums _ _ _ _ r.1 s.1);
      products = λ a b c d r s. (
        related.products _ _ _ _ r.0 s.0,
        related.sums _ _ _ _ (related.products _ _ _ _ r.0 s.1) (related.products _ _ _ _ r.1 s.0),
      );
      opposites = λ a c r. (related.opposites _ _ r.0, related.opposites _ _ r.1);
      images = λ z. (related.images z, related.zeros);
    }

    module _ (xs : List M) (ys : List N) (h : Rows R xs ys) where
      entry : (i : ℕ) → R (at o xs i) (at p ys i)
      entry i = rows_at xs ys i o.zero p.zero h related.zeros

      line_related : (l : Line) → R (line_value o l xs) (line_value p l ys)
      line_related (Constant c) = related.images c
      line_related (Add a b) = related.sums _ _ _ _ (entry a) (entry b)
      line_related (Subtract a b) = related.sums _ _ _ _ (entry a) (related.opposites _ _ (entry b))
      line_related (Multiply a b) = related.products _ _ _ _ (entry a) (entry b)
      line_related (Opposite a) = related.opposites _ _ (entry a)

    values_related : (xs : List M) (ys : List N) (ls : List Line) → Rows R xs ys → Rows R (values o xs ls) (values p ys ls)
    values_related xs ys [] h = h
    values_related xs ys (l ∷ ls) h =
        values_related (xs ++ (line_value o l xs ∷ [])) (ys ++ (line_value p l ys ∷ [])) ls (rows_push xs ys (line_value o l xs) (line_value p l ys) h (line_related xs ys h l))

    pub register_related : (xs : List M) (ys : List N) (ls : List Line) → Rows R xs ys → (r : ℕ) → R (at o (values o xs ls) r) (at p (values p ys ls) r)
    register_related xs ys ls h r = entry (values o xs ls) (values p ys ls) (values_related xs ys ls h) r

-- pairs of whole numbers are related to the pairs of their images
pub images_related : {N : Type 0} (R : ℤ → N → Type 0) (p : Operations N) → Related R whole_operations p → (cs ds : List ℤ)
    → Rows (Both R) (paired cs ds) (paired (map p.image cs) (map p.image ds))
images_related R p related [] ds = tt
images_related R p related (c ∷ cs) [] = tt
images_related R p related (c ∷ cs) (d ∷ ds) = ((related.images c, related.images d), images_related R p related cs ds)
