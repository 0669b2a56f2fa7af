-- Rows that grow by lines, and their entries. Assumes nothing.
use Rattle.std.proofs.Common.{◌≡◌, ℕ, zero, suc, ◌+◌, ◌-◌, ◌<◌, ◌≤◌, min, List, [], ◌∷◌, ◌++◌, map, length, get_or, take, set, sym, refl, ap, ◌∙◌, subst, ap₂, add-zero, arith, length-append, take-suc}
use native.Mathlib.Decide.{dec_le}
use lib.Seq.{take-length, take-nil}
use Rattle.std.proofs.lemmas.List.{get_or_at, get_or-take, map_push, take_all, take_at, take_more, take_more_set, take-take}
use Rattle.tape.specs.declared.lines.Line.{Line}
use Rattle.tape.specs.Rows.{grow}

-- Two rows are equal up to k if each entry below k is, given those before it.
pub same_to : {X : Type 0} (k : ℕ) (xs ys : List X) (d : X) → k ≤ length xs → k ≤ length ys → ((i : ℕ) → i < k → take i xs ≡ take i ys → get_or xs i d ≡ get_or ys i d) → take k xs ≡ take k ys
same_to zero xs ys d hx hy step = refl
same_to (suc k) xs ys d hx hy step =
    let before : take k xs ≡ take k ys = same_to k xs ys d (omega arith) (omega arith) (λ i h e. step i (omega arith) e) in
    let here : get_or xs k d ≡ get_or ys k d = step k (omega arith) before in
    let hx' : k < length xs = omega arith in
    let hy' : k < length ys = omega arith in
    rw (take-suc xs k d hx', take-suc ys k d hy', before, here)

-- A loop that copies the first entries of a list, one more and at its end.
pub copy_more : {X : Type 0} (row from : List X) (i : ℕ) (x : X) → i < length row → i < length from → x ≡ get_or from i x → take i row ≡ take i from
    → take (i + 1) (set row i x) ≡ take (i + 1) from
copy_more row from i x hr hf is before = take_more_set row i x hr ∙ ap₂ (λ r y. r ++ (y ∷ [])) before is ∙ sym (take_more from i x hf)

pub copy_all : {X : Type 0} (row from : List X) (i : ℕ) → i ≡ min (length from) (length row) → take i row ≡ take i from → take (length from) row ≡ take (length row) from
copy_all row from i end same = elim (dec_le (length from) (length row)) [
  | yes h ↦ (let all : length from ≡ i = omega arith in
      ap (λ k. take k row) all ∙ same ∙ ap (λ k. take k from) (sym all) ∙ take-length from ∙ sym (take_all (length row) from h))
  | no h ↦ (let all : length row ≡ i = omega arith in
      take_all (length from) row (omega arith) ∙ sym (take-length row) ∙ ap (λ k. take k row) all ∙ same ∙ ap (λ k. take k from) (sym all))
]

module _ {M : Type 0} (f : Line → List M → M) where
  pub grow_length : (row : List M) (ls : List Line) → length (grow f row ls) ≡ length row + length ls
  grow_length row [] = sym (add-zero (length row))
  grow_length row (l ∷ ls) = grow_length (row ++ (f l row ∷ [])) ls ∙ simp length-append (omega arith)

  -- every entry that a row has is kept
  pub grow_keeps : (row : List M) (ls : List Line) → take (length row) (grow f row ls) ≡ row
  grow_keeps row [] = take-length row
  grow_keeps row (l ∷ ls) =
      let kept = grow_keeps (row ++ (f l row ∷ [])) ls in
      let fewer : length row ≤ length (row ++ (f l row ∷ [])) = simp length-append (omega arith) in
      sym (take-take (length row) _ (grow f (row ++ (f l row ∷ [])) ls) fewer) ∙ ap (take (length row)) kept ∙ take_at row _ _ refl

  -- the entry that a line adds is worked out from those before it
  pub grow_at : (row : List M) (ls : List Line) (j k : ℕ) (z : M) (d : Line) → j < length ls → length row + j ≡ k
      → get_or (grow f row ls) k z ≡ f (get_or ls j d) (take k (grow f row ls))
  grow_at row [] j k z d h e = elim h [ ]
  grow_at row (l ∷ ls) zero k z d h e =
      let row' = row ++ (f l row ∷ []) in
      let kept = grow_keeps row' ls in
      let k_is : length row ≡ k = omega arith in
      let before : k < length row' = simp length-append (omega arith) in
      let here : get_or (grow f row' ls) k z ≡ f l row =
      sym (get_or-take (length row') (grow f row' ls) k z before) ∙ ap (λ r. get_or r k z) kept ∙ get_or_at row (f l row) [] z k k_is in
      let first : take k (grow f row' ls) ≡ row =
      sym (take-take k (length row') (grow f row' ls) (omega arith)) ∙ ap (take k) kept ∙ take_at row _ k k_is in
      here ∙ ap (f l) (sym first)
  grow_at row (l ∷ ls) (suc j) k z d h e =
      grow_at (row ++ (f l row ∷ [])) ls j k z d (omega arith) (simp length-append (omega arith))

  -- an entry that the row has
  pub grow_old : (row : List M) (ls : List Line) (i : ℕ) (z : M) → i < length row → get_or (grow f row ls) i z ≡ get_or row i z
  grow_old row ls i z h = sym (get_or-take (length row) (grow f row ls) i z h) ∙ ap (λ r. get_or r i z) (grow_keeps row ls)

  -- a loop that fills a row so, one entry more
  pub grow_more : (start : List M) (ls : List Line) (row : List M) (i j : ℕ) (x : M) (d : Line) → length start + j ≡ i → j < length ls → i < length row
      → take i row ≡ take i (grow f start ls) → x ≡ f (get_or ls j d) (take i row) → take (i + 1) (set row i x) ≡ take (i + 1) (grow f start ls)
  grow_more start ls row i j x d place some within before is =
      let V = grow f start ls in
      let long : i < length V = rw (grow_length start ls) (omega arith) in
      let here : x ≡ get_or V i x = is ∙ ap (f (get_or ls j d)) before ∙ sym (grow_at start ls j i x d some place) in
      take_more_set row i x within ∙ ap₂ (λ r y. r ++ (y ∷ [])) before here ∙ sym (take_more V i x long)

  -- the first entries come from the first lines
  pub grow_to : (row : List M) (ls : List Line) (k : ℕ) → take k (grow f row ls) ≡ grow f (take k row) (take (k - length row) ls)
  grow_to row [] k = rw (take-nil (k - length row))
  grow_to row (l ∷ ls) k = elim (dec_le k (length row)) [ yes h ↦ short h | no h ↦ long (omega arith) (grow_to (row ++ (f l row ∷ [])) ls k) ]
    where
      row' : List M
      row' = row ++ (f l row ∷ [])

      short : k ≤ length row → take k (grow f row (l ∷ ls)) ≡ grow f (take k row) (take (k - length row) (l ∷ ls))
      short h =
          let none : k - length row ≡ 0 = omega arith in
          rw none (sym (take-take k (length row) (grow f row (l ∷ ls)) h) ∙ ap (take k) (grow_keeps row (l ∷ ls)))

      long : length row < k → take k (grow f row' ls) ≡ grow f (take k row') (take (k - length row') ls)
          → take k (grow f row (l ∷ ls)) ≡ grow f (take k row) (take (k - length row) (l ∷ ls))
      long h ih =
          let fits : length row' ≤ k = simp length-append (omega arith) in
          let one_more : k - length row ≡ suc (k - length row') = simp length-append (omega arith) in
          let all : take k row ≡ row = take_all k row (omega arith) in
          let all' : take k row' ≡ row' = take_all k row' fits in
          rw (one_more, all) (rw all' at ih)

  -- a row that begins so, and in which each line's entry is worked out so, is the grown row
  pub grown : (start : List M) (ls : List Line) (row : List M) (z : M) (d : Line) → length row ≡ length start + length ls → take (length start) row ≡ start
      → ((j : ℕ) → j < length ls → get_or row (length start + j) z ≡ f (get_or ls j d) (take (length start + j) row)) → row ≡ grow f start ls
  grown start ls row z d long begins steps =
      let n = length start in
      let G = grow f start ls in
      let G_length = grow_length start ls in
      let same : take (length row) row ≡ take (length row) G =
      same_to (length row) row G z (omega arith) (omega arith)
      (λ i h before. elim (dec_le n i) [
        | yes above ↦
            (let k : n + (i - n) ≡ i = omega arith in
            subst (λ m. get_or row m z ≡ f (get_or ls (i - n) d) (take m row)) k (steps (i - n) (omega arith))
            ∙ ap (f (get_or ls (i - n) d)) before ∙ sym (grow_at start ls (i - n) i z d (omega arith) k))
        | no below ↦
            sym (get_or-take n row i z (omega arith)) ∙ ap (λ r. get_or r i z) begins ∙ sym (grow_old start ls i z (omega arith))
      ]) in
      sym (take-length row) ∙ same ∙ take_all (length row) G (omega arith)

-- A map that turns one growth into another.
pub grow_map : {M N : Type 0} (h : M → N) (f : Line → List M → M) (g : Line → List N → N) → ((l : Line) (row : List M) → h (f l row) ≡ g l (map h row))
    → (start : List M) (ls : List Line) → map h (grow f start ls) ≡ grow g (map h start) ls
grow_map h f g same start [] = refl
grow_map h f g same start (l ∷ ls) =
    grow_map h f g same (start ++ (f l start ∷ [])) ls
    ∙ ap (λ r. grow g r ls) (map_push h start (f l start) ∙ ap (λ x. map h start ++ (x ∷ [])) (same l start))
