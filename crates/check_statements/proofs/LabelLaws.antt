-- What stands around the statements of a block or loop, with its labels.
use Rattle.std.proofs.Common.{◌≡◌, ℕ, List, Some, refl, ◌∙◌}
use Rattle.mesa_base.specs.declared.identifier.Identifier.{Identifier}
use Rattle.check_rules.specs.Around.{Around, Seen, in_round, in_statement, with_labels}
use Rattle.check_rules.specs.Scopes.{Scope}
use Rattle.check_state.specs.Views as view
use Rattle.check_state.specs.declared.around.Around.{Around as AroundHere}

abbrev pub labelled_at : Around → Scope Seen → ℕ → Around
labelled_at a labels n = record a { labels = labels; labelled = n }

pub with_labels_is : (a b : Around) (labels : Scope Seen) (n : ℕ) (xs ys : List Identifier)
    → labels ≡ (with_labels xs a).labels → n ≡ (with_labels xs a).labelled → a ≡ b → xs ≡ ys → labelled_at a labels n ≡ with_labels ys b
with_labels_is a b labels n xs ys is many same alike = (λ i. labelled_at a (is i) (many i)) ∙ (λ i. with_labels (alike i) (same i))

abbrev pub round_at : AroundHere → Scope Seen → ℕ → Around
round_at a labels n = in_statement (record (view.around a) { labels = labels; labelled = n; loop = Some (record { number = a.statement; arms = a.arms }) })

pub in_round_is : (a : AroundHere) (labels : Scope Seen) (n : ℕ) (xs : List Identifier)
    → labels ≡ (with_labels xs (view.around a)).labels → n ≡ (with_labels xs (view.around a)).labelled → round_at a labels n ≡ in_round xs (view.around a)
unfolding view.around
in_round_is a labels n xs is many = λ i. round_at a (is i) (many i)
