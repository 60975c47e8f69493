-- The regions of each procedure fill its code.
use Rattle.std.proofs.Common.{◌≡◌, sym, ◌∙◌, ℕ, zero, suc, List, [], ◌∷◌, map, All, arith}
use Rattle.mesa_types.specs.Typed.{Procedure, Module}
use Rattle.code_forms.specs.declared.module_code.Phrase.{Phrase}
use Rattle.code_forms.specs.Phrases.{EndsWithCode}
use Rattle.code_forms.specs.Routine.{Spot, spots, code_end}
use Rattle.code_rules.specs.Modules.{procedures_of}
use Rattle.code_blocks.specs.Laws.{RegionsFill, RegionsFillTheCode}
use Rattle.code_blocks.specs.Modules.{body_block, procedure_code}
use Rattle.code_blocks.specs.Regions.{written, returning}
use Rattle.code_blocks.specs.Sizes.{size}
use Rattle.code_blocks.proofs.Bodies.{run_end}
use Rattle.code_blocks.proofs.Counting.{all_finished}
use Rattle.code_blocks.proofs.RegionOrder.{EndsAt}

ends_with : (phrases : List Phrase) (code : List Spot) (start end : ℕ) → EndsAt phrases start end → code_end code ≡ end → EndsWithCode code phrases
ends_with [] code start end e f = tt
ends_with (p ∷ ps) code start end e f = e ∙ sym f

pub regions_fill : (m : Module) (p : Procedure) → RegionsFill (procedure_code m p)
regions_fill m p =
    let B = body_block m p in
    let w = written B in
    let f = all_finished B in
    record {
      follow = (f.turn).follow;
      filled = ends_with w.done (spots w.code) (size (returning B)) w.end (f.turn).ends
          (run_end w.end w.code (omega (arith, (f.kept).whole)) (f.kept).run);
    }

all_fill : (m : Module) (ps : List Procedure) → All RegionsFill (map (procedure_code m) ps)
all_fill m [] k d lt = absurd (omega (arith, lt))
all_fill m (p ∷ ps) zero d lt = regions_fill m p
all_fill m (p ∷ ps) (suc k) d lt = all_fill m ps k d (omega (arith, lt))

pub regions_fill_the_code : RegionsFillTheCode
regions_fill_the_code m = all_fill m (procedures_of m)
