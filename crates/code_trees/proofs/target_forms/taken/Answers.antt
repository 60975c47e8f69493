use Rattle.std.proofs.Common.{◌≡◌, ◌-◌, ◌∙◌, ap, reverse}
use Rattle.std.specs.Prelude.{Result, Ok, IfOk}
use Rattle.code_blocks.specs.Blocks as tree
use Rattle.code_rules.specs.CodeFor.{words_taken}
use Rattle.code_rules.specs.OwnCode.{pop_code}
use Rattle.code_trees.specs.Excess.{excess}
use Rattle.code_trees.specs.Plain.{plain, plain_blocks}
use Rattle.code_trees.specs.declared.part.Part.{Part}
use Rattle.code_trees.specs.declared.part.Row.{Row}
use Rattle.code_trees.proofs.RowFits.{closed_small, last_fits}
use Rattle.code_trees.proofs.target_forms.taken.Goals as goal

same_word : {X E : Type 0} (r : Result X E) (x w : X) → r ≡ Ok x → IfOk r (λ y. y ≡ w) → x ≡ w
same_word r x w is h = rw is at h

same_block : {E : Type 0} (r : Result Part E) (x : Part) (b : tree.Block) → r ≡ Ok x → IfOk r (λ y. plain y.block ≡ b) → plain x.block ≡ b
same_block r x b is h = rw is at h

pub without_words-requires : goal.without_words-requires
without_words-requires c =
    ap (λ n. excess (tree.Does (pop_code n)))
    (same_word _ _ (c.args.all - words_taken (reverse c.as_slice.result.now)) c.in_ok-row.ensures.1 c.words_left.ensures
    ∙ ap (λ l. c.args.all - words_taken (reverse l)) c.as_slice.ensures)
    ∙ last_fits _ _ c.requires

pub closed-requires : goal.closed-requires
closed-requires c =
    closed_small _ _ _ _ (ap (λ (r : Row). plain_blocks r.blocks) (c.in_ok-row-2.ensures.0 ∙ c.in_ok-row.ensures.0))
    (same_block _ _ (tree.Does (pop_code c.in_ok-row.left)) c.in_ok-row-2.ensures.1 c.without_words.ensures
    ∙ ap (λ n. tree.Does (pop_code n))
    (same_word _ _ (c.args.all - words_taken (reverse c.as_slice.result.now)) c.in_ok-row.ensures.1 c.words_left.ensures
    ∙ ap (λ l. c.args.all - words_taken (reverse l)) c.as_slice.ensures))
    c.requires
