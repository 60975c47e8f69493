-- Both laws of places: those of a text's tree are of its tokens, so a fault of checking stands at one.
use Rattle.std.specs.Prelude.{List, [], ◌∷◌, map, Ok, Err, IfErr}
use Rattle.std.specs.List.{All, Contains}
use Rattle.std.proofs.lemmas.List.Elements.{All-nil, All-cons, All-head, All-tail, All-contains, All-contains_itself}
use Rattle.mesa_base.specs.declared.place.Place.{Place}
use Rattle.mesa_lexer.specs.declared.token.Token.{Token}
use Rattle.syntax_trees.specs.PlainSyntax.{syntax}
use Rattle.check_rules.specs.Places.{places_in}
use Rattle.check_rules.specs.Steps.{Checked, Fault}
use Rattle.check_rules.specs.CheckedModule.{checked, checked_definitions}
use Rattle.typing_laws.proofs.KeptModule.{in_the_text}
use Rattle.written_trees.specs.Laws.{IsOfToken, PlacesAreOfTokens, FaultsStandAtTokens}
use Rattle.written_trees.proofs.Tokened.{Stand, none, more, TokensStand}
use Rattle.written_trees.proofs.TokenedModules.{module_stands}

all_stand : (S : Place → Type 0) {ps : List Place} → Stand S ps → All S ps
all_stand S none = All-nil S
all_stand S (more {p = p} {ps = ps} h hs) = All-cons S p ps h (all_stand S hs)

tokens_stand : (S : Place → Type 0) (ts : List Token) → All S (map (λ (t : Token). t.place) ts) → TokensStand S ts
tokens_stand S [] h = tt
tokens_stand S (t ∷ ts) h =
    let behind = map (λ (t : Token). t.place) ts in
    (All-head S t.place behind h, tokens_stand S ts (All-tail S t.place behind h))

pub places_of_tokens : PlacesAreOfTokens
places_of_tokens text x h =
    let its_own = All-contains_itself (map (λ (t : Token). t.place) h.tokens.items) in
    all_stand (IsOfToken h.tokens) (module_stands (IsOfToken h.tokens) (h.parsed).0 (tokens_stand (IsOfToken h.tokens) h.tokens.items its_own))

-- faults that stand at one of some places, of which each is such
err_among : {A : Type 0} (S : Place → Type 0) (ps : List Place) → All S ps → (r : Checked A) → IfErr r (λ (f : Fault). Contains ps f.place)
    → IfErr r (λ (f : Fault). S f.place)
err_among S ps h (Ok a) k = tt
err_among S ps h (Err f) k = All-contains S ps f.place h k

pub faults_at_tokens : FaultsStandAtTokens
faults_at_tokens = record {
  programs = λ text x is h. err_among (IsOfToken h.tokens) (places_in (syntax x)) (places_of_tokens text x h) (checked (syntax x) is)
      (in_the_text.programs (syntax x) is);
  definitions = λ text x stamp is h. err_among (IsOfToken h.tokens) (places_in (syntax x)) (places_of_tokens text x h)
      (checked_definitions (syntax x) stamp is) (in_the_text.definitions (syntax x) stamp is);
}
