-- What the code's functions have to do with the parser functions: one result, and the same tokens left.
use Rattle.std.specs.Prelude.{◌≡◌, ◌≢◌, ℕ, Bool, false, cond, List, [], ◌∷◌, Option, Some, None, Result, Ok, Err}
use Rattle.mesa_base.specs.declared.place.Place.{Place}
use Rattle.mesa_lexer.specs.declared.fault.SyntaxFault.{SyntaxFault}
use Rattle.mesa_lexer.specs.declared.fault.SyntaxFault.TheVariants as s
use Rattle.mesa_lexer.specs.declared.token.Token.{Token}
use Rattle.mesa_lexer.specs.declared.token.Kind.{Kind}
use Rattle.mesa_base.specs.declared.identifier.Identifier.{Identifier}
use Rattle.mesa_base.specs.declared.placed.Placed.{Placed}
use Rattle.token_cursor.specs.declared.fault.Stopped.{Stopped}
use Rattle.token_cursor.specs.declared.fault.Stopped.TheVariants as f
use Rattle.token_cursor.specs.Parsing.{Why, Unexpected, TooDeep, Out, Got, Stop, Parser, finds}

-- Memory has no place among the answers of a parser.
abbrev pub why_of : Stopped → Why
why_of f.Unexpected = Unexpected
why_of f.TooDeep = TooDeep
why_of f.Memory = Unexpected

-- the fault of the text whose parser stopped here
abbrev pub fault_of : Stopped → Place → SyntaxFault
fault_of f.Unexpected p = s.Unexpected p
fault_of f.TooDeep p = s.TooDeep p
fault_of f.Memory p = s.Memory

-- The code's function gives what the parser function gives, and leaves the tokens that it leaves, unless memory runs out.
abbrev pub Reads : {A : Type 0} → Out A → Result A Stopped → List Token → Type 0
Reads out (Ok a) new = out ≡ Got a new
Reads out (Err e) new = e ≢ f.Memory → out ≡ Stop (why_of e) new

-- What was read, or nothing, where the parser function goes the other way.
abbrev pub ReadsOr : {A : Type 0} → Parser A → Out A → Result (Option A) Stopped → List Token → Type 0
ReadsOr other out (Ok (Some a)) new = out ≡ Got a new
ReadsOr other out (Ok None) new = out ≡ other new
ReadsOr other out (Err e) new = e ≢ f.Memory → out ≡ Stop (why_of e) new

-- the next token
unfoldable pub next : List Token → Option Token
next [] = None
next (t ∷ ts) = Some t

unfoldable pub skip : List Token → List Token
skip [] = []
skip (t ∷ ts) = ts

-- does the test hold of its kind?
abbrev pub kind_is : (Kind → Bool) → Option Token → Bool
kind_is f (Some t) = f t.kind
kind_is f None = false

unfoldable pub next_is : (Kind → Bool) → List Token → Bool
next_is f ts = kind_is f (next ts)

abbrev pub with_place : {O : Type 0} → Place → Option O → Option (O × Place)
with_place p (Some o) = Some (o, p)
with_place p None = None

abbrev pub in_token : {O : Type 0} → (Kind → Option O) → Option Token → Option (O × Place)
in_token f (Some t) = with_place t.place (f t.kind)
in_token f None = None

-- what the test finds in the next token, and where that stands
unfoldable pub taken : {O : Type 0} → (Kind → Option O) → List Token → Option (O × Place)
taken f ts = in_token f (next ts)

-- the tokens behind it, where the test finds something in it
unfoldable pub behind : {O : Type 0} → (Kind → Option O) → List Token → List Token
behind f ts = cond (kind_is (finds f) (next ts)) (skip ts) ts

-- the place of what says nothing more
abbrev pub alone : Option Place → Option (Unit {0} × Place)
alone (Some p) = Some (tt, p)
alone None = None

-- an identifier is a name and its place
abbrev pub as_parts : Option Identifier → Option (List ℕ × Place)
as_parts (Some i) = Some (i.name, i.place)
as_parts None = None

-- the bytes of a text and its place
abbrev pub text_parts : Option (Placed (List ℕ)) → Option (List ℕ × Place)
text_parts (Some x) = Some (x.item, x.place)
text_parts None = None
