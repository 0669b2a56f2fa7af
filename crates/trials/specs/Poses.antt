-- Small tapes with their answers, by the definitions that the contracts cite. Assumes nothing.
use Rattle.std.specs.Prelude.{◌≡◌, ℕ, ◌-◌, ◌^◌, [], ◌∷◌, pos, negsuc, Some, None, Option}
use Rattle.kind.specs.Capped.{size_operations}
use Rattle.kind.specs.Modular.{prime, residue_operations}
use Rattle.kind.specs.Wrapping.{tick_operations}
use Rattle.tape.specs.Refusals.{naming}
use Rattle.tape.specs.Values.{backward_count, evaluation_count}
use Rattle.packed.specs.Vectors.{TwoProductsPacked, two_products}
use Rattle.session.specs.States.{Waits}
use Rattle.exact.specs.Ranges.{Keeps, Range}
use Rattle.exact.specs.Refusals.{refuse_sizes}
use Rattle.exact.specs.Wholes.{Question, image_pair, question, whole_slope, whole_value}
use Rattle.trials.specs.Drags.{Answers, Drag}
use Rattle.trials.specs.Tapes.{HasBend, HasGradient, HasSlope, IsWorth, double, less_itself, square, ticks}

-- register 1 of `add 0 0`, at n and along 0
abbrev pub doubling : ℕ → Question
doubling n = question double (ticks n ∷ []) (ticks 0 ∷ [])

pub record WorkedPoses : Type 0 where
  -- the product of 2, 3 and 4 in two lines
  pub product_file : TwoProductsPacked
  pub product_value : IsWorth tick_operations two_products (2 ∷ 3 ∷ 4 ∷ []) 4 24
  pub product_gradient : HasGradient tick_operations two_products (2 ∷ 3 ∷ 4 ∷ []) 4 (12 ∷ 8 ∷ 6 ∷ [])
  pub product_evaluation : evaluation_count two_products 4 ≡ 2
  pub product_walk_back : backward_count two_products 4 ≡ 8
  pub product_slope : HasSlope tick_operations two_products (2 ∷ 3 ∷ 4 ∷ []) (1 ∷ 1 ∷ 1 ∷ []) 4 26
  pub product_bend : HasBend tick_operations two_products (2 ∷ 3 ∷ 4 ∷ []) (1 ∷ 1 ∷ 1 ∷ []) 4 (7 ∷ 6 ∷ 5 ∷ [])
  -- in a session: only what a set control reaches is worked out again, and only up to the register that is asked for
  pub such_a_session : Drag
  pub all_lines_at_first : (d : Drag) → Answers d.first_answer 24 2
  pub last_line_after_its_control : (d : Drag) → Answers d.second_answer 42 1
  pub first_line_alone : (d : Drag) → Answers d.third_answer 15 1
  pub last_line_waits : (d : Drag) → Waits d.left (Some 4)
  pub waiting_has_one_answer : (d : Drag) (k : Option ℕ) → Waits d.left k → k ≡ Some 4
  -- the square of 5
  pub square_value : IsWorth tick_operations square (5 ∷ []) 1 25
  pub square_gradient : HasGradient tick_operations square (5 ∷ []) 1 (10 ∷ [])
  -- 9 less itself: ticks cancel, and sizes add up
  pub ticks_cancel : IsWorth tick_operations less_itself (9 ∷ []) 1 0
  pub cancelled_gradient : HasGradient tick_operations less_itself (9 ∷ []) 1 (0 ∷ [])
  pub sizes_add_up : IsWorth size_operations less_itself (9 ∷ []) 1 18
  pub added_up_gradient : HasGradient size_operations less_itself (9 ∷ []) 1 (2 ∷ [])
  -- the square of the largest residue
  pub largest_residue_squared : IsWorth residue_operations square ((prime - 1) ∷ []) 1 1
  -- twice a number in whole numbers, along 0: answered below 2^63, and refused from there on
  pub doubled_value : whole_value (doubling (2 ^ 62 - 1)) 1 ≡ pos (2 ^ 63 - 2)
  pub doubled_slope : whole_slope (doubling (2 ^ 62 - 1)) 1 ≡ pos 0
  pub doubled_is_answered : refuse_sizes (image_pair (doubling (2 ^ 62 - 1)) size_operations) (1 ∷ []) ≡ None
  pub doubled_too_far_is_refused : refuse_sizes (image_pair (doubling (2 ^ 62)) size_operations) (1 ∷ []) ≡ Some (naming 10 1)
  -- the steps of the span that keep a test
  pub steps_from_9_by_3_down : Range (Keeps (pos 9) (negsuc 2)) (negsuc 999999) (pos 2)
  pub steps_from_10_by_3_down : Range (Keeps (pos 10) (negsuc 2)) (negsuc 999999) (pos 3)
  pub steps_from_minus_6_by_2_up : Range (Keeps (negsuc 5) (pos 2)) (negsuc 999999) (pos 3)
