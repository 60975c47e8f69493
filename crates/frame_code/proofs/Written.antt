-- The code that is written of a procedure, and of one procedure more.
use Rattle.std.proofs.Common.{◌≡◌, refl, sym, subst, ap, ◌∙◌, ℕ, ◌+◌, ◌<◌, ◌≤◌, List, [], ◌∷◌, ◌++◌, length, take, get_or, Some, arith}
use Rattle.std.proofs.lemmas.List.{take_all, take_more}
use Rattle.std.proofs.lemmas.Option.{slice_get_within, slice_get-get_or}
use Rattle.std.specs.Prelude.{slice_get}
use Rattle.mesa_types.specs.Counts.{hidden}
use Rattle.mesa_types.specs.Typed.{Module, Procedure, Stmt}
use Rattle.code_forms.specs.declared.module_code.CodeProcedure.{CodeProcedure}
use Rattle.code_rules.specs.Modules.{words_of_fields}
use Rattle.code_rules.specs.Reading.{Coded, scratch}
use Rattle.code_blocks.specs.Blocks.{Block}
use Rattle.code_blocks.specs.Modules.{body_block, procedure_code, uncoded}
use Rattle.code_blocks.specs.Translation.{block}
use Rattle.code_bodies.specs.code_trees.specs.Excess.{excess}
use Rattle.code_writer.specs.Bounds.{CanBeWritten}
use Rattle.code_writer.specs.declared.procedure.FrameWords.{FrameWords}
use Rattle.code_writer.specs.Procedures.{words_of}
use Rattle.frame_code.specs.Rooms.{HasRoom}

abbrev with_words : (args results frame : ℕ) → FrameWords
with_words args results frame = record { args = args; results = results; frame = frame }

abbrev frame_words : (P : Coded) (p : Procedure) → FrameWords
frame_words P p = with_words (words_of_fields p.head.takes) (words_of_fields p.head.gives) (scratch P + 16 + hidden p.body.does)

words_same : (words : FrameWords) (args results frame : ℕ) → words.args ≡ args → words.results ≡ results → words.frame ≡ frame
    → words ≡ with_words args results frame
words_same words args results frame a b c =
    ap (λ n. with_words n words.results words.frame) a ∙ ap (λ n. with_words args n words.frame) b ∙ ap (with_words args results) c

module _ (P : Coded) (p : Procedure) (h : HasRoom P p) (slot : ℕ) (does : Stmt) (at : slot ≡ scratch P + 16) (same : does ≡ p.body.does) where
  pub slots_fit : slot + hidden does ≤ 65535
  slots_fit = subst (λ (s : Stmt). slot + hidden s ≤ 65535) (sym same) (omega (arith, at, h.frame))

  block_is : block P slot does ≡ block P (scratch P + 16) p.body.does
  block_is = ap (λ n. block P n does) at ∙ ap (block P (scratch P + 16)) same

  pub numbers_fit : excess (block P slot does) ≡ 0
  numbers_fit = ap excess block_is ∙ h.fits

  pub can_be_written : (b : Block) → b ≡ block P slot does → CanBeWritten b
  can_be_written b is = subst CanBeWritten (sym (is ∙ block_is)) h.bounds

  -- the code is that of each module of which the procedure is one
  pub is_its_code : (b : Block) (words : FrameWords) (made : CodeProcedure) → b ≡ block P slot does → words.args ≡ words_of_fields p.head.takes
      → words.results ≡ words_of_fields p.head.gives → words.frame ≡ slot + hidden does
      → ((m : Module) (q : Procedure) → b ≡ body_block m q → p.head.name ≡ q.head.name → words ≡ words_of m q → made ≡ procedure_code m q)
      → (m : Module) → P ≡ uncoded m p → made ≡ procedure_code m p
  is_its_code b words made is args results frame code m own =
      let last : words.frame ≡ scratch P + 16 + hidden p.body.does =
      frame ∙ ap (λ n. n + hidden does) at ∙ ap (λ (s : Stmt). scratch P + 16 + hidden s) same in
      code m p (is ∙ block_is ∙ ap (λ (Q : Coded). block Q (scratch Q + 16) p.body.does) own) refl
      (words_same words (words_of_fields p.head.takes) (words_of_fields p.head.gives) (scratch P + 16 + hidden p.body.does) args results last
      ∙ ap (λ (Q : Coded). frame_words Q p) own)

-- one procedure more
pub one_more : (all made new : List CodeProcedure) (k : ℕ) (x : CodeProcedure) → slice_get all k ≡ Some x → new ≡ made ++ x ∷ [] → made ≡ take k all
    → new ≡ take (k + 1) all
one_more all made new k x is grown before =
    let less : k < length all = slice_get_within all k x is in
    let same : get_or all k x ≡ x = let there : Some (get_or all k x) ≡ Some x = sym (slice_get-get_or all k x less) ∙ is in cc in
    grown ∙ ap (λ l. l ++ x ∷ []) before ∙ ap (λ y. take k all ++ y ∷ []) (sym same) ∙ sym (take_more all k x less)

pub all_there : (all made : List CodeProcedure) (k : ℕ) → length all ≤ k → made ≡ take k all → made ≡ all
all_there all made k le h = h ∙ take_all k all le
