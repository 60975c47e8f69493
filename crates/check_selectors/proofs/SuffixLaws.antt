-- Suffixes, and one more behind them.
use Rattle.std.proofs.Common.{◌≡◌, ℕ, List, [], ◌∷◌, ◌++◌, refl, sym, ap, ◌∙◌}
use Rattle.mesa_types.specs.Typed as t
use Rattle.mesa_types.specs.Plain.{suffix, expr, Layer, suffix_step}
use Rattle.mesa_types.specs.declared.typed_tree.Suffix.{Suffix}
use Rattle.mesa_types.specs.declared.typed_tree.Condition.TheOpen.{Suffix-F}
use Rattle.mesa_types.specs.declared.typed_tree.Condition.TheFolds.{fold_out-Suffix, fold-roll-Suffix}
use Rattle.mesa_types.specs.declared.typed_tree.Suffix.TheVariants as sv
use Rattle.mesa_types.specs.declared.typed_tree.TypedExpr.{TypedExpr}
use Rattle.mesa_types.specs.declared.typed_parts.Extent.{Extent}
use Rattle.check_rules.specs.Parts.{and_suffix}
use Rattle.check_selectors.specs.Views.{suffixes}

layer_and : (y : Layer Suffix-F) (rest : t.Suffixes) (f : t.Suffixes → t.Suffixes) → and_suffix (suffix_step y rest) f ≡ suffix_step y (and_suffix rest f)
unfolding and_suffix
layer_and (Suffix-F.Field k o) rest f = refl
layer_and (Suffix-F.Index x e) rest f = refl

one_and : (x : Suffix) (rest : t.Suffixes) (f : t.Suffixes → t.Suffixes) → and_suffix (suffix x rest) f ≡ suffix x (and_suffix rest f)
one_and x rest f = rw fold_out-Suffix (layer_and _ rest f)

pub one_suffix_more : (ss : List Suffix) (s : Suffix) → suffixes (ss ++ s ∷ []) ≡ and_suffix (suffixes ss) (suffix s)
unfolding suffixes and_suffix
one_suffix_more [] s = refl
one_suffix_more (x ∷ ss) s = ap (suffix x) (one_suffix_more ss s) ∙ sym (one_and x (suffixes ss) (suffix s))

index_form : (x : Extent) (e : TypedExpr) → suffix (sv.Index x e) ≡ t.Index x.check x.first x.elements x.words (expr e)
index_form x e = ap suffix (sym (sv.rolls-Index x e)) ∙ rw fold-roll-Suffix refl

field_form : (k o : ℕ) → suffix (sv.Field k o) ≡ t.Field k o
field_form k o = ap suffix (sym (sv.rolls-Field k o)) ∙ rw fold-roll-Suffix refl

pub index_more : (ss : List Suffix) (x : Extent) (e : TypedExpr) → suffixes (ss ++ sv.Index x e ∷ []) ≡ and_suffix (suffixes ss) (t.Index x.check x.first x.elements x.words (expr e))
index_more ss x e = one_suffix_more ss (sv.Index x e) ∙ ap (and_suffix (suffixes ss)) (index_form x e)

pub field_more : (ss : List Suffix) (k o : ℕ) → suffixes (ss ++ sv.Field k o ∷ []) ≡ and_suffix (suffixes ss) (t.Field k o)
field_more ss k o = one_suffix_more ss (sv.Field k o) ∙ ap (and_suffix (suffixes ss)) (field_form k o)
