-- The code of a sound body stands for it.
use Rattle.std.proofs.Common.{◌≡◌, refl, sym, ap, ◌∙◌, subst, ℕ, suc, ◌+◌, ◌-◌, ◌<◌, List, [], ◌∷◌, length, arith}
use Rattle.std.specs.Prelude.{slice_get}
use Rattle.mesa_types.specs.Sound.{BodyIn, scope_of}
use Rattle.mesa_types.specs.Typed.{Procedure, Module}
use Rattle.code_forms.specs.declared.instruction.Instruction.TheVariants as i
use Rattle.code_forms.specs.declared.module_code.CodeEntry.{CodeEntry}
use Rattle.code_forms.specs.declared.module_code.CodeProcedure.{CodeProcedure}
use Rattle.code_forms.specs.declared.module_code.Phrase.{Phrase}
use Rattle.code_forms.specs.Instructions.{bytes_of}
use Rattle.code_forms.specs.Routine.{Routine, spots, code_end}
use Rattle.code_rules.specs.Modules.{BodyCode, body_end, body_end_of, coded}
use Rattle.code_rules.specs.Reading.{Coded, at_body, scratch}
use Rattle.code_blocks.specs.Blocks.{Block, Does}
use Rattle.code_blocks.specs.Sizes.{size}
use Rattle.code_blocks.specs.Writing.{in_procedure}
use Rattle.code_blocks.specs.Regions.{Written, written, returning}
use Rattle.code_blocks.specs.Modules.{uncoded, body_block, procedure_code}
use Rattle.code_blocks.proofs.Counting.{StartsAt, Finished, all_finished}
use Rattle.code_blocks.proofs.ExtractRows.{HaveWords}
use Rattle.code_blocks.proofs.Keeping.{keeps}
use Rattle.code_blocks.proofs.Known.{known_in_body}
use Rattle.code_blocks.proofs.Laying.{Run}
use Rattle.code_blocks.proofs.Lying.{own_lies}
use Rattle.code_blocks.proofs.Placed.{placed, held, body_lies}
use Rattle.code_blocks.proofs.ExpressionRows.{next}
use Rattle.code_blocks.proofs.Standing.{stands}

-- where the code ends
last_end : (a b : ℕ) (e : CodeEntry) (es : List CodeEntry) → Run a (e ∷ es) b → code_end (spots (e ∷ es)) ≡ b
last_end a b e [] r = omega (arith, r.0, r.1)
last_end a b e (f ∷ es) r =
    ap (λ n. Rattle.code_forms.specs.Routine.end_of (slice_get (spots (e ∷ f ∷ es)) n)) {x = length (spots (e ∷ f ∷ es)) - 1}
    {y = suc (length (spots (f ∷ es)) - 1)} (omega arith)
    ∙ last_end (a + bytes_of e.instruction) b f es r.1

pub run_end : (b : ℕ) (es : List CodeEntry) → 0 < b → Run 0 es b → code_end (spots es) ≡ b
run_end b [] lt r = absurd (omega (arith, lt, r))
run_end b (e ∷ es) lt r = last_end 0 b e es r

first_region_ends : (phrases : List Phrase) (start whole end : ℕ) → StartsAt phrases start end → whole ≡ end → body_end_of phrases whole ≡ start
first_region_ends [] start whole end first e = e ∙ first
first_region_ends (p ∷ ps) start whole end first e = first

module _ (m : Module) (p : Procedure) (routine : CodeProcedure → Routine)
    (same_code : (c : CodeProcedure) → (routine c).code ≡ spots c.code) (same_phrases : (c : CodeProcedure) → (routine c).phrases ≡ c.phrases)
    (room : (c : CodeProcedure) → (routine c).frame ≡ c.frame)
    (sound : BodyIn m p.head.takes p.head.gives p.body)
    (words : HaveWords (scope_of m p.head.takes p.head.gives p.body)) where
  abbrev B : Block
  B = body_block m p

  abbrev w : Written
  w = written B

  abbrev c : CodeProcedure
  c = procedure_code m p

  f : Finished (returning B) w
  f = all_finished B

  abbrev P : Coded
  P = coded m p (routine c) c

  ends : body_end P.routine ≡ size (returning B)
  ends =
      first_region_ends (P.routine).phrases (size (returning B)) (code_end (P.routine).code) w.end
      (subst (λ ps. StartsAt ps (size (returning B)) w.end) (sym (same_phrases c)) f.first)
      (ap code_end (same_code c) ∙ run_end w.end w.code (omega (arith, (f.kept).whole)) (f.kept).run)

  pub body_stands : BodyCode P p.body.does
  body_stands =
      let U = uncoded m p in
      let Γ = scope_of m p.head.takes p.head.gives p.body in
      let S = placed U (routine c) (returning B) w f.kept f.all (same_phrases c) in
      let x = next S B (Does (i.Return ∷ [])) in_procedure (at_body P) 0 0
      (body_lies U (routine c) (returning B) w f.kept f.all (same_phrases c)) (keeps U Γ words p.body.does sound.does (scratch U + 16) 0) in
      record {
        end = 0 + size B;
        does = stands S (held U (routine c) (returning B) w f.kept f.all (same_phrases c)) Γ words p.body.does sound.does in_procedure (at_body P)
            (known_in_body m p.head.takes p.head.gives p.body) 0 (0 + size B) x.0 refl;
        returns = own_lies S (at_body P) (i.Return ∷ []) in_procedure (0 + size B) (body_end P.routine) (tt, tt) x.1 (ends ∙ omega arith);
        room = omega (arith, room c);
      }
