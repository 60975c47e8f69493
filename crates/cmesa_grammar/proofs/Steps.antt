-- Steps of the parsers in the order of the code.
use Rattle.std.proofs.Common.{◌≡◌, ℕ, List, [], ◌∷◌, Some, None, ap, sym, ◌∙◌}
use Rattle.mesa_base.specs.declared.place.Place.{Place}
use Rattle.mesa_base.specs.declared.identifier.Identifier.{Identifier}
use Rattle.mesa_lexer.specs.declared.token.Token.{Token}
use Rattle.mesa_lexer.specs.declared.token.Kind.TheVariants as k
use Rattle.mesa_lexer.specs.declared.mark.Mark.TheVariants.{Arrow, Colon}
use Rattle.token_cursor.specs.Parsing.{Got, Parser, and_then, exactly, option, ended_turn}
use Rattle.token_cursor.specs.Running.{taken, behind}
use Rattle.token_cursor.proofs.Choosing.{choose_none, choose_some}
use Rattle.token_cursor.proofs.Loops.{Eats}
use Rattle.cmesa_grammar.specs.declared.syntax.Configuration.{Configuration}
use Rattle.cmesa_grammar.specs.declared.syntax.ConfigStatement.{ConfigStatement}
use Rattle.cmesa_grammar.specs.ReadConfigs as r
use Rattle.cmesa_grammar.specs.ReadConfigs.{nested, semicolon, begins_statement, statements_step}
use Rattle.cmesa_grammar.proofs.Keep as kp

pub statements_eats : (n : ℕ) → Eats (ended_turn semicolon begins_statement (statements_step (nested n)))
statements_eats n = kp.statements_eats n (nested n) (kp.nested n)

-- an instance with its own name
pub colon_made : (p : Place) (records held : List Identifier) (i : Identifier) (ts us vs : List Token) (place : Place) → r.named ts ≡ Got i us → held ≡ records
    → taken (exactly (k.Mark Colon)) us ≡ Some (tt, place) → vs ≡ behind (exactly (k.Mark Colon)) us → r.made p records ts ≡ r.named_instance p held i vs
unfolding r.made
colon_made p records held i ts us vs place read same found rest =
    ap (λ out. and_then out (λ i. option (k.Mark Colon) (λ _. r.named_instance p records i) (r.instance p records None i))) read
    ∙ (choose_some (exactly (k.Mark Colon)) (λ _ _. r.named_instance p records i) (r.instance p records None i) us vs tt place found rest
    ∙ ap (λ l. r.named_instance p l i vs) (sym same))

module _ (inner : Identifier → Parser Configuration) (i : Identifier) where
  -- what may stand behind a first name that no arrow follows
  abbrev others : Parser ConfigStatement
  others = option (k.Mark Colon) (λ _. r.declared inner i) (r.instance i.place [] None i)

  -- the name is that of a record
  pub arrow_from : (held : List Identifier) (ts us : List Token) (place : Place) → held ≡ i ∷ [] → taken (exactly (k.Mark Arrow)) ts ≡ Some (tt, place) → us ≡ behind (exactly (k.Mark Arrow)) ts
      → r.from_name inner i ts ≡ r.made i.place held us
  unfolding r.from_name
  arrow_from held ts us place same found rest =
      choose_some (exactly (k.Mark Arrow)) (λ _ _. r.made i.place (i ∷ [])) others ts us tt place found rest ∙ ap (λ l. r.made i.place l us) (sym same)

  -- the name stands before a colon
  pub colon_from : (ts us vs : List Token) (place : Place) → taken (exactly (k.Mark Arrow)) ts ≡ None → us ≡ behind (exactly (k.Mark Arrow)) ts
      → taken (exactly (k.Mark Colon)) us ≡ Some (tt, place) → vs ≡ behind (exactly (k.Mark Colon)) us → r.from_name inner i ts ≡ r.declared inner i vs
  unfolding r.from_name
  colon_from ts us vs place none rest found more =
      choose_none (exactly (k.Mark Arrow)) (λ _ _. r.made i.place (i ∷ [])) others ts us none rest
      ∙ choose_some (exactly (k.Mark Colon)) (λ _ _. r.declared inner i) (r.instance i.place [] None i) us vs tt place found more
