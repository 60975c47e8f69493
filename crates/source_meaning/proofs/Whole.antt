-- The laws of whole programs.
use Rattle.std.specs.Prelude.{refl, suc, ◌-◌, length}
use mathlib.Core.Path.{sym}
use Rattle.source_meaning.specs.Meaning.{meaning}
use Rattle.source_meaning.specs.Means.{outcome, first_state}
use Rattle.source_meaning.specs.Laws.{HasOneResult, InputIsTakenInOrder}
use Rattle.source_meaning.proofs.Through.{control_kept}
use Rattle.source_meaning.proofs.Standing.{Leaves, leaves_kept, meaning_leaves}

pub has_one_result : HasOneResult
has_one_result P input e turns =
    let r = outcome P input e turns in
    record {
      output = r.state.output;
      end = r.answer;
      left = r.state.turns;
      taken = length input - length r.state.input;
      is_meant = record { its_output = refl; its_end = refl; its_turns = refl; its_input = refl };
      no_other = λ o a l t m. (sym m.its_output, sym m.its_end, sym m.its_turns, sym m.its_input);
    }

pub input_is_taken_in_order : InputIsTakenInOrder
unfolding outcome first_state
input_is_taken_in_order P input e turns =
    (control_kept Leaves Leaves leaves_kept P (meaning P (suc turns)) (meaning P (suc turns)) (meaning_leaves P (suc turns)) P.control).taken (first_state P input e turns)
