use Rattle.std.proofs.Common.{[], ◌∷◌, refl, subst}
use Rattle.kind.specs.Capped.{size_laws}
use Rattle.kind.specs.Reduced.{reduced_path}
use Rattle.kind.specs.Wrapping.{tick_laws, tick_operations}
use Rattle.sweep.specs.Queries.{IsGradient}
use Rattle.packed.proofs.Vectors.{two_products_packed}
use Rattle.trials.specs.Tapes.{less_itself, numbers}
use Rattle.trials.proofs.Dragging.{first_answer_is, last_waits, only_last_waits, second_answer_is, third_answer_is}
use Rattle.trials.proofs.Gradients.{less_itself_gradient, product_bend, product_gradient, square_gradient}
use Rattle.trials.proofs.Making.{some_drag}
use Rattle.trials.proofs.Stepping.{from_10, from_9, from_minus_6}
use Rattle.trials.proofs.poses.worked_poses.Goals as goal

pub returns : goal.returns
returns c = record {
  product_file = two_products_packed;
  product_value = refl;
  product_gradient = product_gradient tick_laws _ _ _;
  product_evaluation = refl;
  product_walk_back = refl;
  product_slope = refl;
  product_bend = product_bend tick_laws _ _ _;
  such_a_session = some_drag;
  all_lines_at_first = first_answer_is;
  last_line_after_its_control = second_answer_is;
  first_line_alone = third_answer_is;
  last_line_waits = last_waits;
  waiting_has_one_answer = only_last_waits;
  square_value = refl;
  square_gradient = square_gradient tick_laws _;
  ticks_cancel = reduced_path refl;
  cancelled_gradient = subst (λ g. IsGradient tick_operations less_itself (numbers tick_operations (9 ∷ [])) 1 (g ∷ [])) (reduced_path refl) (less_itself_gradient tick_laws _);
  sizes_add_up = refl;
  added_up_gradient = less_itself_gradient size_laws _;
  largest_residue_squared = reduced_path refl;
  doubled_value = refl;
  doubled_slope = refl;
  doubled_is_answered = refl;
  doubled_too_far_is_refused = refl;
  steps_from_9_by_3_down = from_9;
  steps_from_10_by_3_down = from_10;
  steps_from_minus_6_by_2_up = from_minus_6;
}
