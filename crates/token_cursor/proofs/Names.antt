-- The parsers of names keep to the grammar, whatever may not come first nor follow, as long as that is no name.
use Rattle.std.proofs.Common.{◌≡◌, ℕ, false, List, [], ◌∷◌, ◌++◌, Some, None, refl, sym, subst, ◌∙◌}
use Rattle.mesa_base.specs.declared.place.Place.{Place}
use Rattle.mesa_base.specs.declared.identifier.Identifier.{Identifier}
use Rattle.mesa_lexer.specs.declared.token.Token.{Token}
use Rattle.mesa_lexer.specs.declared.token.Kind.{Kind}
use Rattle.mesa_lexer.specs.declared.token.Kind.TheVariants as k
use Rattle.mesa_lexer.specs.declared.mark.Mark.TheVariants.{Comma}
use Rattle.token_cursor.specs.Parsing.{token, spelled, Parser, ◌>>=◌, refuse, a_name, choose, many_turn}
use Rattle.token_cursor.specs.Names as g
use Rattle.token_cursor.specs.ReadNames as r
use Rattle.token_cursor.specs.ReadNames.{identifier, comma}
use Rattle.token_cursor.proofs.Exact.{Test, Rel, first_none, Keeps, Took, Then, done, imply, Plainly, bind_plain}
use Rattle.token_cursor.proofs.Branches.{name_is, choose_or, choose_must, of_kind}
use Rattle.token_cursor.proofs.Loops.{Eats, many_eats, many_keeps}

-- ---- a name that is taken

named_kind : {X : Type 0} {l c : Test} (R : Rel X) (p : Identifier → Parser X) → ((i : Identifier) → Keeps l c (Took (spelled i) R) (p i))
    → (n : List ℕ) (place : Place) (kind : Kind) → a_name kind ≡ Some n → Keeps l c (Took (token kind place) R) (p (identifier n place))
named_kind {l = l} {c = c} R p h n place kind e =
    subst (λ z. Keeps l c (Took (token z place) R) (p (identifier n place))) (sym (name_is kind n e)) (h (identifier n place))

pub name_or : {X : Type 0} {k l c : Test} {R : Rel X} {p : Identifier → Parser X} {q : Parser X}
    → ((i : Identifier) → Keeps l c (Took (spelled i) R) (p i)) → Keeps k c R q → Keeps k c R (choose a_name (λ n place. p (identifier n place)) q)
name_or {R = R} {p = p} h g = choose_or (named_kind R p h) g

pub name_must : {X : Type 0} {j l c : Test} {R : Rel X} {p : Identifier → Parser X} → j (k.Name []) ≡ false
    → ((i : Identifier) → Keeps l c (Took (spelled i) R) (p i)) → Keeps j c R (choose a_name (λ n place. p (identifier n place)) refuse)
name_must {l = l} {R = R} {p = p} free h = choose_must {l = l} (k.Name []) [] refl free (named_kind R p h)

abbrev pub NameIs : List Token → Identifier → List Token → Type 0
NameIs ts i rest = ts ≡ spelled i ∷ rest

pub named : {j c : Test} → j (k.Name []) ≡ false → Keeps j c (Plainly NameIs) r.named
unfolding r.named
named {c = c} free = name_must {l = c} free (λ i. done i (λ ws. (refl, refl)))

-- a name that must come, and then the rest
pub by_name : {X : Type 0} {j l c : Test} {R : Rel X} {q : Identifier → Parser X} → j (k.Name []) ≡ false
    → ((i : Identifier) → Keeps l c (Took (spelled i) R) (q i)) → Keeps j c R (r.named >>= q)
by_name {R = R} free h = bind_plain (named free) (λ i. imply (λ ts x rest o d us e. subst (λ z. R z x rest o) (sym e) d) (h i))

-- ---- names

abbrev pub Names : Rel (List Identifier)
Names = Plainly g.IsNames

pub names_step : {j c : Test} → j (k.Name []) ≡ false → (all : List Identifier) (o : Unit {0}) (place : Place) (kind : Kind) → comma kind ≡ Some o
    → Keeps j c (Took (token kind place) (Then Names Names all)) (r.names_step all o place)
names_step {j = j} {c = c} free all =
    of_kind j c (Then Names Names all) (r.names_step all tt) (k.Mark Comma)
    (λ place. by_name {l = c} free (λ i. done (all ++ i ∷ []) (λ ws us o d. (g.names d.0, first_none o ∙ d.1))))

pub names_eats : Eats (many_turn comma r.names_step)
names_eats = many_eats (λ all t. Took t (Then Names Names all)) comma r.names_step (names_step {j = λ _. false} {c = λ _. false} refl)

pub names_from : {c : Test} → c (k.Name []) ≡ false → (i : Identifier) → Keeps c c (Took (spelled i) Names) (r.names_from i)
unfolding r.names_from
names_from {c = c} free i =
    imply (λ ts y rest o d. d (spelled i ∷ ts) None (g.name, refl)) (many_keeps Names comma r.names_step (names_step {j = c} {c = c} free) (i ∷ []))

pub names : {c : Test} → c (k.Name []) ≡ false → Keeps c c Names r.names
unfolding r.names
names {c = c} free = by_name {l = c} free (names_from free)
