-- A procedure of a module from its words.
use Rattle.std.proofs.Common.{◌≡◌, ap, ◌∙◌, ℕ, List}
use Rattle.mesa_types.specs.Typed.{Module, Procedure}
use Rattle.code_forms.specs.declared.module_code.CodeProcedure.{CodeProcedure}
use Rattle.code_writer.specs.declared.procedure.FrameWords.{FrameWords}
use Rattle.code_writer.specs.Procedures.{procedure_from, words_of}
use Rattle.code_blocks.specs.Blocks.{Block}
use Rattle.code_blocks.specs.Modules.{body_block, procedure_code}
use Rattle.code_blocks.specs.Regions.{written}

pub same_procedure : (c : CodeProcedure) (name : List ℕ) (words : FrameWords) (b : Block) → c ≡ procedure_from name words (written b)
    → (m : Module) (p : Procedure) → b ≡ body_block m p → name ≡ p.head.name → words ≡ words_of m p → c ≡ procedure_code m p
same_procedure c name words b e m p body named sized =
    e ∙ ap (λ x. procedure_from name words (written x)) body
    ∙ ap (λ x. procedure_from x words (written (body_block m p))) named
    ∙ ap (λ x. procedure_from p.head.name x (written (body_block m p))) sized
