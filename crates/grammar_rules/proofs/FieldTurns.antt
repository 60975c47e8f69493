-- Lists of fields, whose names may be types: steps that look at the parser alone.
use Rattle.std.proofs.Common.{◌≡◌, ℕ, zero, suc, ◌||◌, List, [], ◌∷◌, ◌++◌, Option, Some, None, ◌⊎◌, inl, inr, refl, sym, ap, subst, ◌∙◌, arith}
use Rattle.mesa_base.specs.declared.place.Place.{Place}
use Rattle.mesa_lexer.specs.declared.token.Token.{Token}
use Rattle.mesa_lexer.specs.declared.token.Kind.TheVariants as k
use Rattle.mesa_lexer.specs.declared.mark.Mark.TheVariants.{Colon, Comma, Dot}
use Rattle.token_cursor.specs.Parsing.{mark, Got, Parser, and_then, ◌>>=◌, pure, exactly, finds, a_name, choose, Again, Done, go_on, repeat}
use Rattle.token_cursor.specs.Parsing as w
use Rattle.token_cursor.proofs.Exact.{Free}
use Rattle.token_cursor.proofs.Branches.{passed}
use Rattle.token_cursor.proofs.Loops.{Eats, unroll}
use Rattle.token_cursor.proofs.Leading.{Leads, stand, finish, onto, under, comp, last, ahead, via, placed, turn_leads, many_more, many_end, Begins, stops_deep, done_on}
use Rattle.mesa_base.specs.declared.identifier.Identifier.{Identifier}
use Rattle.syntax_trees.specs.declared.syntax.FieldList.{FieldList}
use Rattle.syntax_trees.specs.declared.syntax.FieldList.TheVariants.{Unnamed}
use Rattle.syntax_trees.specs.declared.syntax.TypeExp.{TypeExp}
use Rattle.syntax_trees.specs.declared.syntax.TypeExp.TheVariants as t
use Rattle.syntax_trees.specs.declared.syntax.TypeBase.TheVariants.{OfName}
use Rattle.grammar_rules.specs.WordsAndMarks.{spelled, opening}
use Rattle.grammar_rules.specs.Grammar as g
use Rattle.grammar_rules.specs.Grammar.{qualified}
use Rattle.grammar_rules.specs.Depth.{deep_type}
use Rattle.grammar_rules.specs.ReadNested.{identifier, comma, begins_type}
use Rattle.grammar_rules.specs.ReadNested as nr
use Rattle.grammar_rules.specs.ReadExpressions as ex
use Rattle.grammar_rules.specs.ReadExpressions.{Undecided, all_names, called}
use Rattle.grammar_rules.specs.ReadStatements.{nested}
use Rattle.grammar_rules.proofs.KeepTypes as kt
use Rattle.grammar_rules.proofs.Levels.{all_of}
use Rattle.grammar_rules.proofs.Follows.{more_type, more_fields, free_left, free_right, free_only, declares, opening_starts, fields_declare}
use Rattle.grammar_rules.proofs.Turns.{dot, type_name}
use Rattle.grammar_rules.proofs.Goes.{base_bare, Opens, interval_opens, opens_declares}
use Rattle.grammar_rules.proofs.Seconds.{excludes}

abbrev pub Turning : ℕ → Undecided → Parser FieldList
Turning m = repeat (ex.undecided_turn (nested (suc m)))

undecided_eats : (m : ℕ) → Eats (ex.undecided_turn (nested (suc m)))
undecided_eats m = kt.undecided_eats (suc m) (nested (suc m)) (all_of (suc m))

-- names so far, after which the loop stands
pub record Prefix (m : ℕ) (ts : List Token) (all : List Identifier) (rest : List Token) : Type 0 where
  pub state : Undecided
  pub same : all_names state ≡ all
  pub leads : Leads ts state rest None (Turning m) (ex.field_list (nested (suc m)) ts)

first_prefix : (m : ℕ) (i : Identifier) (rest : List Token) → Prefix m (spelled i ∷ rest) (i ∷ []) rest
unfolding ex.field_list nested choose
first_prefix m i rest = record { state = record { before = []; last = i }; same = refl; leads = ahead (spelled i) (stand rest (record { before = []; last = i }) (Turning m)) }

longer : (m : ℕ) (ts rest : List Token) (all : List Identifier) (i : Identifier) (p : Place) → Prefix m ts all (mark Comma p ∷ spelled i ∷ rest) → Prefix m ts (all ++ i ∷ []) rest
unfolding ex.undecided_turn ex.after_comma choose
longer m ts rest all i p h = record {
  state = record { before = all_names h.state; last = i };
  same = ap (λ z. z ++ i ∷ []) h.same;
  leads = comp h.leads (turn_leads (ex.undecided_turn (nested (suc m))) (undecided_eats m) h.state (record { before = all_names h.state; last = i }) (mark Comma p ∷ spelled i ∷ rest) rest None (ahead (mark Comma p) (ahead (spelled i) (stand rest (Again (record { before = all_names h.state; last = i })) (λ y. pure y)))));
}

pub prefix_names : (m : ℕ) {ts rest : List Token} {all : List Identifier} → g.IsNames ts all rest → Prefix m ts all rest
prefix_names m (g.name {rest = rest} {i = i}) = first_prefix m i rest
prefix_names m {ts} {rest} (g.names {all = all} {i = i} {p = p} d) = longer m ts rest all i p (prefix_names m d)

-- after the colon
pub at_colon : (m : ℕ) (u : Undecided) (p : Place) (us : List Token) → Turning m u (mark Colon p ∷ us) ≡ ex.with_names (nested (suc m)) (all_names u) us
unfolding ex.undecided_turn choose
at_colon m u p us = unroll (ex.undecided_turn (nested (suc m))) (undecided_eats m) u (mark Colon p ∷ us) ∙ done_on (ex.with_names (nested (suc m)) (all_names u) us) (Turning m)

-- the last name begins a type
at_type : (m : ℕ) (u : Undecided) (ts : List Token) → Free declares ts → Turning m u ts ≡ ex.types_from (nested (suc m)) u ts
unfolding ex.undecided_turn
at_type m u ts f = unroll (ex.undecided_turn (nested (suc m))) (undecided_eats m) u ts
    ∙ (ap (λ out. and_then out (go_on (Turning m))) (passed (exactly (k.Mark Comma)) (λ _ _. ex.after_comma (nested (suc m)) (all_names u)) (w.option (k.Mark Colon) (λ _. ex.with_names (nested (suc m)) (all_names u) >>= (λ x. pure (Done x))) (ex.types_from (nested (suc m)) u >>= (λ x. pure (Done x)))) ts (excludes declares (k.Mark Comma) refl ts f)
    ∙ passed (exactly (k.Mark Colon)) (λ _ _. ex.with_names (nested (suc m)) (all_names u) >>= (λ x. pure (Done x))) (ex.types_from (nested (suc m)) u >>= (λ x. pure (Done x))) ts (excludes declares (k.Mark Colon) refl ts f))
    ∙ done_on (ex.types_from (nested (suc m)) u ts) (Turning m))

-- a type that is more than a name, or no name
pub data Kinds : List Token → TypeExp → List Token → Option (List Token) → Type 0 where
  a_bare : {i : Identifier} {rest : List Token} → Kinds (spelled i ∷ rest) (t.Called (qualified i None)) rest None
  from_name : {i : Identifier} {us rest : List Token} {x : TypeExp} {o : Option (List Token)} → Free declares us → Kinds (spelled i ∷ us) x rest o
  no_name : {ts rest : List Token} {x : TypeExp} {o : Option (List Token)} → Free (finds a_name) ts → Kinds ts x rest o

opens_unnamed : (ts : List Token) → Opens ts → Free (finds a_name) ts
opens_unnamed ts o = subst (Free (finds a_name)) (sym o.is) (opening_starts o.kind o.open_end o.opens).1

pub kind_of : (m : ℕ) {ts rest : List Token} {x : TypeExp} (d : g.IsType ts x rest) → Kinds ts x rest (deep_type (suc m) d)
kind_of m g.integer = no_name refl
kind_of m g.cardinal = no_name refl
kind_of m g.long_integer = no_name refl
kind_of m g.long_cardinal = no_name refl
kind_of m g.boolean = no_name refl
kind_of m g.character = no_name refl
kind_of m g.string = no_name refl
kind_of m (g.called g.bare) = a_bare
kind_of m (g.called g.dotted) = from_name refl
kind_of m (g.enumeration d) = no_name refl
kind_of m {ts} (g.subrange g.unsaid d) = no_name (opens_unnamed ts (interval_opens d))
kind_of m (g.subrange g.of_integer d) = no_name refl
kind_of m (g.subrange g.of_cardinal d) = no_name refl
kind_of m (g.subrange g.of_character d) = no_name refl
kind_of m (g.subrange (g.of_name (g.bare {rest = us})) d) = from_name (opens_declares us (interval_opens d))
kind_of m (g.subrange (g.of_name g.dotted) d) = from_name refl
kind_of m (g.array d f) = no_name refl
kind_of m (g.a_record d) = no_name refl

-- ---- lists of types: while all are names, and after that

abbrev pub Types : ℕ → List TypeExp → Parser FieldList
Types n = ex.more_types (nested n)

pub record Past (m : ℕ) (ts : List Token) (all : List TypeExp) (rest : List Token) (o : Option (List Token)) : Type 0 where
  pub leads : Leads ts all rest o (Types (suc m)) (ex.field_list (nested (suc m)) ts)

pub record Still (m : ℕ) (ts : List Token) (all : List TypeExp) (rest : List Token) (o : Option (List Token)) : Type 0 where
  pub names : List Identifier
  pub prefix : Prefix m ts names rest
  pub same : all ≡ called names
  pub shallow : o ≡ None

-- the parser of one more type, after these
one_type : (n : ℕ) (before : List TypeExp) (us rest : List Token) (x : TypeExp) (o : Option (List Token)) → Leads us x rest o (λ y. pure y) ((nested n).type None us) → Leads us (before ++ x ∷ []) rest (w.first o None) (Types n) (ex.unnamed (nested n) before us)
unfolding ex.unnamed
one_type n before us rest x o h = comp (onto (λ x. Types n (before ++ x ∷ [])) h) (stand rest (before ++ x ∷ []) (Types n))

called_nil : called [] ≡ []
unfolding called
called_nil = refl

pub called_one : (i : Identifier) → called (i ∷ []) ≡ t.Called (qualified i None) ∷ []
unfolding called
called_one i = refl

from_last : (m : ℕ) (u : Undecided) (us : List Token) → ex.types_from (nested (suc m)) u us ≡ ex.unnamed (nested (suc m)) (called u.before) (spelled u.last ∷ us)
unfolding ex.types_from ex.unnamed
from_last m u us = ap (λ out. and_then out (λ x. ex.more_types (nested (suc m)) (called u.before ++ x ∷ []))) (sym (type_name m u.last us))

start_unnamed : (m : ℕ) (ts : List Token) → Free (finds a_name) ts → ex.field_list (nested (suc m)) ts ≡ ex.unnamed (nested (suc m)) [] ts
unfolding ex.field_list nested
start_unnamed m ts f = passed a_name (λ n p. repeat (ex.undecided_turn (nested (suc m))) (record { before = []; last = identifier n p })) (ex.unnamed (nested (suc m)) []) ts f

start_named : (m : ℕ) (i : Identifier) (us : List Token) → Free declares us → ex.field_list (nested (suc m)) (spelled i ∷ us) ≡ ex.unnamed (nested (suc m)) [] (spelled i ∷ us)
unfolding ex.field_list nested choose
start_named m i us f = at_type m (record { before = []; last = i }) us f ∙ (from_last m (record { before = []; last = i }) us ∙ ap (λ z. ex.unnamed (nested (suc m)) z (spelled i ∷ us)) called_nil)

pub start_phase : (m : ℕ) {ts rest : List Token} {x : TypeExp} {o : Option (List Token)} → Kinds ts x rest o → Leads ts x rest o (λ y. pure y) ((nested (suc m)).type None ts)
    → Still m ts (x ∷ []) rest (w.first o None) ⊎ Past m ts (x ∷ []) rest (w.first o None)
start_phase m (a_bare {i = i} {rest = rest}) h = inl (record { names = i ∷ []; prefix = first_prefix m i rest; same = sym (called_one i); shallow = refl })
start_phase m {ts} {rest} {x} {o} (from_name {i = i} {us = us} f) h = inr (record { leads = via (start_named m i us f) (one_type (suc m) [] ts rest x o h) })
start_phase m {ts} {rest} {x} {o} (no_name f) h = inr (record { leads = via (start_unnamed m ts f) (one_type (suc m) [] ts rest x o h) })

-- after a comma
comma_unnamed : (m : ℕ) (u : Undecided) (p : Place) (us : List Token) → Free (finds a_name) us → Turning m u (mark Comma p ∷ us) ≡ ex.unnamed (nested (suc m)) (called (all_names u)) us
unfolding ex.undecided_turn ex.after_comma choose
comma_unnamed m u p us f = unroll (ex.undecided_turn (nested (suc m))) (undecided_eats m) u (mark Comma p ∷ us)
    ∙ (ap (λ out. and_then out (go_on (Turning m))) (passed a_name (λ n q. pure (Again (record { before = all_names u; last = identifier n q }))) (ex.unnamed (nested (suc m)) (called (all_names u)) >>= (λ x. pure (Done x))) us f) ∙ done_on (ex.unnamed (nested (suc m)) (called (all_names u)) us) (Turning m))

comma_named : (m : ℕ) (u : Undecided) (p : Place) (i : Identifier) (us : List Token) → Free declares us → Turning m u (mark Comma p ∷ spelled i ∷ us) ≡ ex.unnamed (nested (suc m)) (called (all_names u)) (spelled i ∷ us)
unfolding ex.undecided_turn ex.after_comma choose
comma_named m u p i us f = unroll (ex.undecided_turn (nested (suc m))) (undecided_eats m) u (mark Comma p ∷ spelled i ∷ us)
    ∙ (at_type m (record { before = all_names u; last = i }) us f ∙ from_last m (record { before = all_names u; last = i }) us)

-- with one more
past_more : (m : ℕ) (ts us rest : List Token) (all : List TypeExp) (x : TypeExp) (p : Place) (o o' : Option (List Token)) → Past m ts all (mark Comma p ∷ us) o → Leads us x rest o' (λ y. pure y) ((nested (suc m)).type None us) → Past m ts (all ++ x ∷ []) rest (w.first o (w.first o' None))
unfolding ex.more_types
past_more m ts us rest all x p o o' h l = record { leads = comp h.leads (under (λ all. pure (Unnamed all)) (many_more comma (ex.types_step (nested (suc m))) (kt.types_eats (suc m) (nested (suc m)) (all_of (suc m))) tt (mark Comma p) refl (last (λ x. all ++ x ∷ []) l))) }

still_past : (m : ℕ) (ts us rest : List Token) (all : List TypeExp) (x : TypeExp) (p : Place) (o o' : Option (List Token)) (s : Still m ts all (mark Comma p ∷ us) o) → Turning m s.prefix.state (mark Comma p ∷ us) ≡ ex.unnamed (nested (suc m)) (called (all_names s.prefix.state)) us
    → Leads us x rest o' (λ y. pure y) ((nested (suc m)).type None us) → Past m ts (all ++ x ∷ []) rest (w.first o (w.first o' None))
still_past m ts us rest all x p o o' s e l = record {
  leads = placed (ap (λ z. w.first z (w.first o' None)) (sym s.shallow)) (subst (λ z. Leads ts (z ++ x ∷ []) rest (w.first o' None) (Types (suc m)) (ex.field_list (nested (suc m)) ts)) (ap called s.prefix.same ∙ sym s.same)
      (comp s.prefix.leads (via e (ahead (mark Comma p) (one_type (suc m) (called (all_names s.prefix.state)) us rest x o' l)))));
}

pub next_phase : (m : ℕ) (ts : List Token) {us rest : List Token} (all : List TypeExp) {x : TypeExp} (p : Place) (o : Option (List Token)) {o' : Option (List Token)} → Kinds us x rest o' → Leads us x rest o' (λ y. pure y) ((nested (suc m)).type None us)
    → Still m ts all (mark Comma p ∷ us) o ⊎ Past m ts all (mark Comma p ∷ us) o → Still m ts (all ++ x ∷ []) rest (w.first o (w.first o' None)) ⊎ Past m ts (all ++ x ∷ []) rest (w.first o (w.first o' None))
next_phase m ts {us} {rest} all {x} p o {o'} kind l (inr h) = inr (past_more m ts us rest all x p o o' h l)
next_phase m ts all p o (a_bare {i = i} {rest = rest}) l (inl s) = inl (record { names = s.names ++ i ∷ []; prefix = longer m ts rest s.names i p s.prefix; same = ap (λ z. z ++ t.Called (qualified i None) ∷ []) s.same ∙ sym (kt.called_more s.names i); shallow = ap (λ z. w.first z None) s.shallow })
next_phase m ts {us} {rest} all {x} p o {o'} (from_name {i = i} {us = vs} f) l (inl s) = inr (still_past m ts us rest all x p o o' s (comma_named m s.prefix.state p i vs f) l)
next_phase m ts {us} {rest} all {x} p o {o'} (no_name f) l (inl s) = inr (still_past m ts us rest all x p o o' s (comma_unnamed m s.prefix.state p us f) l)

-- at the end
types_end : (n : ℕ) (all : List TypeExp) (ts : List Token) → Free (finds comma) ts → Types n all ts ≡ Got (Unnamed all) ts
unfolding ex.more_types
types_end n all ts f = ap (λ out. and_then out (λ all. pure (Unnamed all))) (many_end comma (ex.types_step (nested n)) (kt.types_eats n (nested n) (all_of n)) all ts f)

last_bare : (m : ℕ) (i : Identifier) (before : List TypeExp) (ts : List Token) → Free more_fields ts → ex.unnamed (nested (suc m)) before (spelled i ∷ ts) ≡ Types (suc m) (before ++ t.Called (qualified i None) ∷ []) ts
unfolding ex.unnamed nested ex.type_exp ex.type_from nr.qname_from choose
last_bare m i before ts f =
    let f1 = free_right (w.only (k.Mark Comma)) (λ kind. w.only (k.Mark Colon) kind || more_type kind) ts f in
    let f2 = free_right (w.only (k.Mark Colon)) more_type ts f1 in
    ap (λ out. and_then (and_then out (λ x. ex.after_base (nested m) (OfName x) (t.Called x))) (λ x. Types (suc m) (before ++ x ∷ []))) (passed dot (λ _ _. nr.named >>= (λ j. pure (qualified i (Some j)))) (pure (qualified i None)) ts (free_only (k.Mark Dot) ts (free_left (w.only (k.Mark Dot)) (finds opening) ts f2)))
    ∙ ap (λ out. and_then out (λ x. Types (suc m) (before ++ x ∷ []))) (base_bare (nested m) (OfName (qualified i None)) (t.Called (qualified i None)) ts (free_right (w.only (k.Mark Dot)) (finds opening) ts f2))

declared_free : (ts : List Token) → Free more_fields ts → Free declares ts
declared_free [] f = tt
declared_free (t ∷ ts) f = fields_declare t.kind f

pub types_done : (m : ℕ) (ts rest : List Token) (all : List TypeExp) (o : Option (List Token)) → Free more_fields rest → Still m ts all rest o ⊎ Past m ts all rest o → Leads ts (Unnamed all) rest o (λ y. pure y) (ex.field_list (nested (suc m)) ts)
types_done m ts rest all o f (inr h) = finish (Unnamed all) rest (λ y. pure y) h.leads (types_end (suc m) all rest (free_only (k.Mark Comma) rest (free_left (w.only (k.Mark Comma)) (λ kind. w.only (k.Mark Colon) kind || more_type kind) rest f))) (omega arith)
types_done m ts rest all o f (inl s) =
    let u : Undecided = s.prefix.state in
    placed (sym s.shallow) (subst (λ z. Leads ts (Unnamed z) rest None (λ y. pure y) (ex.field_list (nested (suc m)) ts)) (ap called s.prefix.same ∙ sym s.same)
    (finish (Unnamed (called (all_names u))) rest (λ y. pure y) s.prefix.leads
    (at_type m u rest (declared_free rest f) ∙ (from_last m u rest ∙ (last_bare m u.last (called u.before) rest f ∙ (ap (λ z. Types (suc m) z rest) (sym (kt.called_more u.before u.last)) ∙ types_end (suc m) (called (all_names u)) rest (free_only (k.Mark Comma) rest (free_left (w.only (k.Mark Comma)) (λ kind. w.only (k.Mark Colon) kind || more_type kind) rest f))))))
    (omega arith)))

-- at the last level the first type is too deep
pub fields_deep : (ts : List Token) → Begins begins_type ts → ex.field_list (nested zero) ts ≡ w.Stop w.TooDeep ts
unfolding ex.field_list ex.unnamed nested
fields_deep ts b = ap (λ out. and_then out (λ x. ex.more_types (nested zero) (x ∷ []))) (stops_deep begins_type ts b)
