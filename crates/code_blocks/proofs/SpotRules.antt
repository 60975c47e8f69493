-- Each jump of a sound module leads where it may, and each instruction has operands in range.
use Rattle.std.proofs.Common.{◌≡◌, refl, sym, ap, ◌∙◌, subst, ℕ, zero, suc, ◌+◌, List, [], ◌∷◌, map, All, Option, Some, None, arith}
use Rattle.std.proofs.lemmas.Option.{slice_get_within}
use Rattle.std.specs.Prelude.{slice_get}
use Rattle.mesa_types.specs.Sound.{Sound, scope_of}
use Rattle.mesa_types.specs.Typed.{Procedure, Module}
use Rattle.code_forms.specs.declared.module_code.Arm.{Arm}
use Rattle.code_forms.specs.declared.module_code.CodeEntry.{CodeEntry}
use Rattle.code_forms.specs.declared.module_code.CodeProcedure.{CodeProcedure}
use Rattle.code_forms.specs.declared.module_code.Phrase.{Phrase}
use Rattle.code_forms.specs.declared.region.Region.{Region}
use Rattle.code_forms.specs.declared.region.Region.TheVariants.{Body, ArmOf}
use Rattle.code_forms.specs.Operands.{ArmFits}
use Rattle.code_forms.specs.Regions.{region_at, arm_in, arm_of}
use Rattle.code_forms.specs.Routine.{Routine}
use Rattle.code_rules.specs.Modules.{procedures_of}
use Rattle.code_rules.specs.Points.{in_body, in_arm}
use Rattle.code_rules.specs.Reading.{scratch}
use Rattle.code_blocks.specs.Blocks.{Block, ArmBlocks, NoArmBlock, AndArmBlock}
use Rattle.code_blocks.specs.Laws.{routine_in, JumpsRight, JumpsAreRight, OperandsRight, OperandsAreInRange}
use Rattle.code_blocks.specs.Modules.{uncoded, body_block, procedure_code, module_code}
use Rattle.code_blocks.specs.Regions.{Written, returning, written}
use Rattle.code_blocks.specs.Sizes.{size, phrase_count}
use Rattle.code_blocks.specs.Writing.{region, regions, phrase_from}
use Rattle.code_blocks.proofs.Closed.{block_closed}
use Rattle.code_blocks.proofs.Coding.{BodyFine, AllFine, main_fine, all_fine}
use Rattle.code_blocks.proofs.Counting.{all_finished}
use Rattle.code_blocks.proofs.EntryRules.{EntryRight, AllEntries, AllCaught, caught_get, Final, all_ruled}
use Rattle.code_blocks.proofs.Fits.{Ways, ArmFine, Fits, ArmsFit}
use Rattle.code_blocks.proofs.Lists.{get_there}
use Rattle.code_blocks.proofs.Meeting.{meets_body}
use Rattle.code_blocks.proofs.PhraseRules.{is_start}
use Rattle.code_blocks.proofs.ProcedureNames.{names_of}
use Rattle.code_blocks.proofs.Telling.{all_from, arm_told, body_told}
use Rattle.code_blocks.proofs.TreeFits.{Here, block_fits}

entries_get : (r : Routine) (es : List CodeEntry) → AllEntries r es → (k : ℕ) (e : CodeEntry) → slice_get es k ≡ Some e → EntryRight r e
entries_get r [] h k e f = cc
entries_get r (x ∷ es) h zero e f = let same : x ≡ e = cc in subst (EntryRight r) same h.0
entries_get r (x ∷ es) h (suc k) e f = entries_get r es h.1 k e f

-- what is said of the arms of a phrase is said of their regions
pub arm_there : (r : Routine) (arms : ArmBlocks) (depth : ℕ) (ways : Ways) (at : ℕ) → ArmsFit r arms depth ways → (j : ℕ) (x : Arm)
    → slice_get (regions arms at) j ≡ Some x → ArmFine r x.labels x.slot x.words
arm_there r NoArmBlock depth ways at h j x e = cc
arm_there r (AndArmBlock labels slot words b arms) depth ways at h zero x e =
    let first : Arm = record { labels = labels; slot = slot; words = words; start = at; end = at + size (region b) } in
    let same : first ≡ x = cc in
    subst (λ (y : Arm). ArmFine r y.labels y.slot y.words) same h.0
arm_there r (AndArmBlock labels slot words b arms) depth ways at h (suc j) x e = arm_there r arms depth ways (at + size (region b)) h.2 j x e

module _ (m : Module) (s : Sound m) (p : Procedure) (h : BodyFine m p) where
  abbrev pub c : CodeProcedure
  c = procedure_code m p

  abbrev pub r : Routine
  r = routine_in (module_code m) c

  abbrev B : Block
  B = body_block m p

  abbrev w : Written
  w = written B

  body_fits : Fits r B 0 (in_body tt)
  unfolding scope_of
  body_fits =
      let Γ = scope_of m p.head.takes p.head.gives p.body in
      let here : Here (uncoded m p) r Γ (in_body tt) =
      record { names = names_of m p s h; meets = meets_body m p.head.takes p.head.gives p.body } in
      block_fits (uncoded m p) r Γ (in_body tt) here (scratch (uncoded m p) + 16) p.body.does (omega arith) (h.sound).does

  final : Final r (size (returning B)) w
  final = record {
    starts = λ o x. is_start w.code o x;
    body = λ o le lt. body_told w.done (size (returning B)) w.end o (all_from B) lt;
    arms = λ k j q a e f o le lt. arm_told w.done (size (returning B)) w.end o k j q a (all_from B) e f le lt;
    listed = λ k q e. e;
  }

  ruled : AllEntries r w.code × AllCaught r w.found
  ruled = (all_ruled r (phrase_count B) B (block_closed (uncoded m p) (scratch (uncoded m p) + 16) p.body.does 0) body_fits).right final

  pub phrase_arms : (k : ℕ) (q : Phrase) → slice_get w.done k ≡ Some q → (j : ℕ) (x : Arm) → slice_get q.arms j ≡ Some x → ArmFine r x.labels x.slot x.words
  phrase_arms k q e j x f =
      let done = all_finished B in
      let lt = slice_get_within w.done k q e in
      let g = get_there w.found k (omega (arith, lt, done.all)) in
      let y = (done.kept).arms k g.0 lt g.1 in
      let same : q ≡ phrase_from g.0 y.0 = cc (sym e ∙ y.1) in
      let arms = caught_get r w.found ruled.1 k g.0 g.1 in
      arm_there r (g.0).arms (suc arms.depth) (in_arm arms.ways) y.0 arms.fit j x (sym (ap (λ (z : Phrase). slice_get z.arms j) same) ∙ f)

  arm_fits : (g : Region) (x : Arm) → arm_of w.done g ≡ Some x → ArmFits r x
  arm_fits Body x e = cc
  arm_fits (ArmOf k j) x e = go (slice_get w.done k) refl e
    where
      go : (o : Option Phrase) → slice_get w.done k ≡ o → arm_in o j ≡ Some x → ArmFits r x
      go None same f = cc
      go (Some q) same f = let y = phrase_arms k q same j x f in record { slots = y.slots; words = y.takes }

  jumps : JumpsRight r w.code
  jumps k e f = (entries_get r w.code ruled.0 k e f).0

  operands : OperandsRight r w.code
  operands k e f = record {
    own = (entries_get r w.code ruled.0 k e f).1;
    arm = λ x g start. arm_fits (region_at w.done e.at) x g;
  }

all_procedures : (m : Module) → Sound m → (Q : CodeProcedure → Type 0) → ((p : Procedure) → BodyFine m p → Q (procedure_code m p)) → (ps : List Procedure) → AllFine m ps
    → All Q (map (procedure_code m) ps)
all_procedures m s Q f [] h k d lt = absurd (omega (arith, lt))
all_procedures m s Q f (p ∷ ps) h zero d lt = f p h.0
all_procedures m s Q f (p ∷ ps) h (suc k) d lt = all_procedures m s Q f ps h.1 k d (omega (arith, lt))

-- what is so of each procedure whose body is sound
pub each_procedure : (m : Module) → Sound m → (Q : CodeProcedure → Type 0) → ((p : Procedure) → BodyFine m p → Q (procedure_code m p))
    → All Q (module_code m).procedures
each_procedure m s Q f = all_procedures m s Q f (procedures_of m) (main_fine m s, all_fine m s m.procedures s.procedures)

pub jumps_are_right : JumpsAreRight
jumps_are_right m s = each_procedure m s (λ q. JumpsRight (routine_in (module_code m) q) q.code) (λ p h. jumps m s p h)

pub operands_are_in_range : OperandsAreInRange
operands_are_in_range m s = each_procedure m s (λ q. OperandsRight (routine_in (module_code m) q) q.code) (λ p h. operands m s p h)
