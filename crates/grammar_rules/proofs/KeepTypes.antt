-- The parsers of types keep to the grammar.
use Rattle.std.proofs.Common.{◌≡◌, ℕ, suc, true, List, [], ◌∷◌, ◌++◌, Option, Some, None, refl, sym, ap, subst, ◌∙◌}
use Rattle.mesa_base.specs.declared.place.Place.{Place}
use Rattle.mesa_lexer.specs.declared.token.Token.{Token}
use Rattle.mesa_lexer.specs.declared.token.Kind.{Kind}
use Rattle.mesa_lexer.specs.declared.token.Kind.TheVariants as k
use Rattle.mesa_lexer.specs.declared.word.Word.TheVariants.{ArrayWord, BooleanWord, CardinalWord, CharacterWord, IntegerWord, LongWord, OfWord, RecordWord, StringWord}
use Rattle.mesa_lexer.specs.declared.mark.Mark.TheVariants.{Colon, Comma, LeftBracket, RightBracket, LeftBrace, RightBrace}
use Rattle.token_cursor.specs.Parsing.{token, mark, first, finds, Again, repeat, many_turn}
use Rattle.token_cursor.specs.Parsing as w
use Rattle.token_cursor.proofs.Exact.{Rel, first_none, first_assoc, Sample, Keeps, Took, Then, bind, done, imply, Past, bind_plain, alone, single, both, either}
use Rattle.token_cursor.proofs.Branches.{option_or, word, when_keeps, of_kind}
use Rattle.token_cursor.proofs.Loops.{Steps, Eats, growing, many_eats, many_keeps, stopping, eats_by, less_done, no_more_done, no_more_pure, less_choose, no_more_choose}
use Rattle.mesa_base.specs.declared.identifier.Identifier.{Identifier}
use Rattle.syntax_trees.specs.declared.syntax.Labeled.{Labeled}
use Rattle.syntax_trees.specs.declared.syntax.TypeBase.{TypeBase}
use Rattle.syntax_trees.specs.declared.syntax.TypeBase.TheVariants.{Unsaid, OfInteger, OfCardinal, OfCharacter, OfName}
use Rattle.syntax_trees.specs.declared.syntax.Interval.{Interval}
use Rattle.syntax_trees.specs.declared.syntax.TypeExp.{TypeExp}
use Rattle.syntax_trees.specs.declared.syntax.TypeExp.TheVariants as t
use Rattle.syntax_trees.specs.declared.syntax.FieldList.{FieldList}
use Rattle.syntax_trees.specs.declared.syntax.FieldList.TheVariants.{WithNames, Unnamed}
use Rattle.grammar_rules.specs.WordsAndMarks.{spelled, opening}
use Rattle.grammar_rules.specs.Grammar as g
use Rattle.grammar_rules.specs.Grammar.{labeled, qualified}
use Rattle.grammar_rules.specs.ReadNested.{Nested, comma}
use Rattle.grammar_rules.specs.ReadExpressions as r
use Rattle.grammar_rules.specs.ReadExpressions.{Undecided, all_names, called}
use Rattle.grammar_rules.proofs.Readings.{cut, Inner, Type_at, Fields_at, Types_at, Groups_at, Interval_at}
use Rattle.grammar_rules.proofs.Names as nm
use Rattle.grammar_rules.proofs.KeepExpressions as ke

-- ---- names, taken for types

pub called_more : (all : List Identifier) (i : Identifier) → called (all ++ i ∷ []) ≡ called all ++ t.Called (qualified i None) ∷ []
unfolding called
called_more [] i = refl
called_more (j ∷ all) i = ap (λ z. t.Called (qualified j None) ∷ z) (called_more all i)

called_none : (x : TypeExp) → called [] ++ x ∷ [] ≡ x ∷ []
unfolding called
called_none x = refl

module _ (n : ℕ) (q : Nested) (inner : Inner n q) where
  -- after the base, or the type that it is where no interval follows
  after_base : (R : Rel TypeExp) (b : TypeBase) (x : TypeExp) → ((us : List Token) (i : Interval) (rest : List Token) (o : Option (List Token)) → Interval_at n us i rest o → R us (t.Subrange b i) rest (first o None)) → ((ws : List Token) → R ws x ws None) → Keeps cut cut R (r.after_base q b x)
  unfolding r.after_base
  after_base R b x bounded bare = when_keeps (finds opening) (bind (ke.interval n q inner) (λ i. done (t.Subrange b i) (λ ws us o d. bounded us i ws o d))) (done x bare)

  pub type_from : (i : Identifier) → Keeps cut cut (Took (spelled i) (Type_at (suc n))) (r.type_from q i)
  unfolding r.type_from
  type_from i = bind_plain {P = λ ts x rest. g.IsQName (spelled i ∷ ts) x rest} (nm.qname_from i) (λ x. after_base (Past (λ ts y rest. g.IsQName (spelled i ∷ ts) y rest) (Took (spelled i) (Type_at (suc n))) x) (OfName x) (t.Called x)
      (λ us j rest o d us1 d1. (g.subrange (g.of_name d1) d.0, alone d.1)) (λ ws us1 d1. (g.called d1, refl)))

  enumeration : (p : Place) → Keeps cut cut (Took (mark LeftBrace p) (Type_at (suc n))) (r.enumeration q p)
  unfolding r.enumeration
  enumeration p = bind_plain nm.names (λ all. word (k.Mark RightBrace) refl refl (λ s. done (t.Enumeration p all) (λ ws us d. (g.enumeration d, refl))))

  array : (p : Place) → Keeps cut cut (Took (w.word ArrayWord p) (Type_at (suc n))) (r.array q p)
  unfolding r.array
  array p = bind inner.a_type (λ x. word (k.Word OfWord) refl refl (λ s. bind inner.a_type (λ y. done (t.Array p x y) (λ ws us o d us1 o1 d1. (g.array d1.0 d.0, both d1.1 d.1)))))

  -- ---- types without names

  pub types_step : (all : List TypeExp) (o : Unit {0}) (p : Place) (kind : Kind) → comma kind ≡ Some o → Keeps cut cut (Took (token kind p) (Then (Types_at n) (Types_at n) all)) (r.types_step q all o p)
  types_step all = of_kind cut cut (Then (Types_at n) (Types_at n) all) (r.types_step q all tt) (k.Mark Comma) (λ p. bind inner.a_type (λ x. done (all ++ x ∷ []) (λ ws us o d us1 o1 d1. (g.types d1.0 d.0, both d1.1 d.1))))

  pub types_eats : Eats (many_turn comma (r.types_step q))
  types_eats = many_eats (λ all t. Took t (Then (Types_at n) (Types_at n) all)) comma (r.types_step q) types_step

  more_types : (R : Rel FieldList) (before : List TypeExp) → ((us : List Token) (all : List TypeExp) (rest : List Token) (o : Option (List Token)) → Then (Types_at n) (Types_at n) before us all rest o → R us (Unnamed all) rest (first o None)) → Keeps cut cut R (r.more_types q before)
  unfolding r.more_types
  more_types R before so = bind (many_keeps (Types_at n) comma (r.types_step q) types_step before) (λ all. done (Unnamed all) (λ ws us o d. so us all ws o d))

  unnamed : (R : Rel FieldList) (before : List TypeExp) → ((us : List Token) (x : TypeExp) (mid : List Token) (o : Option (List Token)) → Type_at n us x mid o → (all : List TypeExp) (rest : List Token) (o' : Option (List Token)) → Then (Types_at n) (Types_at n) (before ++ x ∷ []) mid all rest o' → R us (Unnamed all) rest (first o (first o' None)))
      → Keeps cut cut R (r.unnamed q before)
  unfolding r.unnamed
  unnamed R before so = bind inner.a_type (λ x. more_types (Then (Type_at n) R x) (before ++ x ∷ []) (λ mid all rest o' h us o d. so us x mid o d all rest o' h))

  -- ---- types with names

  pub groups_step : (all : List (Labeled (List Identifier) TypeExp)) (o : Unit {0}) (p : Place) (kind : Kind) → comma kind ≡ Some o → Keeps cut cut (Took (token kind p) (Then (Groups_at n) (Groups_at n) all)) (r.groups_step q all o p)
  groups_step all = of_kind cut cut (Then (Groups_at n) (Groups_at n) all) (r.groups_step q all tt) (k.Mark Comma) (λ p. bind_plain nm.names (λ ns. word (k.Mark Colon) refl refl (λ s. bind inner.a_type (λ x. done (all ++ labeled ns x ∷ [])
      (λ ws us o d us1 d1 us0 o0 d0. (g.groups d0.0 d1 d.0, both d0.1 d.1))))))

  pub groups_eats : Eats (many_turn comma (r.groups_step q))
  groups_eats = many_eats (λ all t. Took t (Then (Groups_at n) (Groups_at n) all)) comma (r.groups_step q) groups_step

  -- names so far: those before the last are types, and the last begins one; or all are names of fields to come
  pub record Either (ts : List Token) (u : Undecided) (rest : List Token) (o : Option (List Token)) : Type 0 where
    pub names : g.IsNames ts (all_names u) rest
    pub types : (x : TypeExp) (end : List Token) (o' : Option (List Token)) → Type_at n (spelled u.last ∷ rest) x end o' → Types_at n ts (called u.before ++ x ∷ []) end o'
    pub shallow : o ≡ None

  -- with the last name as a type
  whole : (m : ℕ) → n ≡ suc m → (ts : List Token) (u : Undecided) (rest : List Token) (o : Option (List Token)) → Either ts u rest o → Types_at n ts (called (all_names u)) rest None
  whole m top ts u rest o b = subst (λ z. Types_at n ts z rest None) (sym (called_more u.before u.last)) (b.types (t.Called (qualified u.last None)) rest None (subst (λ z. Type_at z (spelled u.last ∷ rest) (t.Called (qualified u.last None)) rest None) (sym top) (g.called g.bare, refl)))

  begun : (i : Identifier) (ts : List Token) → Either (spelled i ∷ ts) (record { before = []; last = i }) ts None
  unfolding called
  begun i ts = record { names = g.name; types = λ x end o' d. (g.a_type d.0, single d.1); shallow = refl }

  grown : (m : ℕ) → n ≡ suc m → (ts : List Token) (u : Undecided) (i : Identifier) (p : Place) (ws : List Token) (o : Option (List Token)) → Either ts u (mark Comma p ∷ spelled i ∷ ws) o → Either ts (record { before = all_names u; last = i }) ws (first o None)
  grown m top ts u i p ws o b = record {
    names = g.names b.names;
    types = λ x end o' d. let h = whole m top ts u (mark Comma p ∷ spelled i ∷ ws) o b in (g.types h.0 d.0, both h.1 d.1 ∙ first_none o');
    shallow = first_none o ∙ b.shallow;
  }

  with_names : (u : Undecided) (p : Place) → Keeps cut cut (Took (mark Colon p) (Then Either (Fields_at n) u)) (r.with_names q (all_names u))
  unfolding r.with_names
  with_names u p = bind inner.a_type (λ x. bind (many_keeps (Groups_at n) comma (r.groups_step q) groups_step (labeled (all_names u) x ∷ []))
      (λ all. done (WithNames all) (λ ws us o d us1 o1 d1 us0 o0 b.
      let h = d us0 (first o1 None) (g.group b.names d1.0, alone d1.1) in
      (g.with_names h.0, alone h.1 ∙ (first_assoc (first o1 None) o None ∙ (first_assoc o1 None (first o None) ∙ sym (ap (λ z. first z (first o1 (first o None))) b.shallow)))))))

  module _ (may : q.can ≡ true) (m : ℕ) (top : n ≡ suc m) where
    types_from : (u : Undecided) → Keeps cut cut (Then Either (Fields_at n) u) (r.types_from q u)
    unfolding r.types_from
    types_from u = bind (inner.type_from may u.last) (λ x. more_types (Then (Took (spelled u.last) (Type_at n)) (Then Either (Fields_at n) u) x) (called u.before ++ x ∷ [])
        (λ us all rest o' h us1 o1 d1 us0 o0 b.
        let f = h us0 o1 (b.types x us o1 d1) in
        (g.unnamed f.0, alone f.1 ∙ (first_assoc o1 o' None ∙ sym (ap (λ z. first z (first o1 (first o' None))) b.shallow)))))

    last_types : (u : Undecided) (p : Place) → Keeps cut cut (Took (mark Comma p) (Then Either (Fields_at n) u)) (r.unnamed q (called (all_names u)))
    last_types u p = unnamed (Took (mark Comma p) (Then Either (Fields_at n) u)) (called (all_names u)) (λ us x mid o d all rest o' h us0 o0 b.
        let v = whole m top us0 u (mark Comma p ∷ us) o0 b in
        let f = h us0 (first o None) (g.types v.0 d.0, both v.1 d.1) in
        (g.unnamed f.0, alone f.1 ∙ (first_assoc (first o None) o' None ∙ (first_assoc o None (first o' None) ∙ sym (ap (λ z. first z (first o (first o' None))) b.shallow)))))

    after_comma : (u : Undecided) (p : Place) → Keeps cut cut (Took (mark Comma p) (Steps Either (Fields_at n) u)) (r.after_comma q (all_names u))
    unfolding r.after_comma
    after_comma u p = nm.name_or (λ i. done (Again (record { before = all_names u; last = i })) (λ ws us o b. grown m top us u i p ws o b)) (stopping Either (Fields_at n) u (λ z. mark Comma p ∷ z) (last_types u p))

    turn : (u : Undecided) → Keeps cut cut (Steps Either (Fields_at n) u) (r.undecided_turn q u)
    unfolding r.undecided_turn
    turn u = option_or (k.Mark Comma) (after_comma u) (option_or (k.Mark Colon) (λ p. stopping Either (Fields_at n) u (λ z. mark Colon p ∷ z) (with_names u p)) (stopping Either (Fields_at n) u (λ z. z) (types_from u)))

    stops : (u : Undecided) → Sample cut cut (Then Either (Fields_at n) u)
    stops u = record { text = []; made = Unnamed (called (all_names u)); viable = λ ws e. (None, (λ us o b. let v = whole m top us u ws o b in (g.unnamed v.0, alone v.1 ∙ sym (first_none o ∙ b.shallow))), e) }

  pub undecided_eats : Eats (r.undecided_turn q)
  unfolding r.undecided_turn r.after_comma
  undecided_eats = eats_by (λ u. less_choose _ _ _ (λ o p. no_more_choose _ _ _ (λ name s. no_more_pure _) (no_more_done (r.unnamed q (called (all_names u))) (λ x. x))) (less_choose _ _ _ (λ o p. no_more_done (r.with_names q (all_names u)) (λ x. x)) (less_done (r.types_from q u) (λ x. x))))

  begun_list : q.can ≡ true → (i : Identifier) → Keeps cut cut (Took (spelled i) (Fields_at n)) (repeat (r.undecided_turn q) (record { before = []; last = i }))
  begun_list may i = let top = inner.top may in imply (λ ts y rest o d. d (spelled i ∷ ts) None (begun i ts)) (growing Either (Fields_at n) (r.undecided_turn q) undecided_eats (turn may top.0 top.1) (stops may top.0 top.1) (record { before = []; last = i }))

  first_types : Keeps cut cut (Fields_at n) (r.unnamed q [])
  first_types = unnamed (Fields_at n) [] (λ us x mid o d all rest o' h. let f = h us o (g.a_type d.0, single d.1) in (g.unnamed f.0, alone f.1 ∙ first_assoc o o' None))

  pub field_list : Keeps cut cut (Fields_at n) (r.field_list q)
  unfolding r.field_list
  field_list = either q.can (λ may. nm.name_or (begun_list may) first_types) first_types

  a_record : (p : Place) → Keeps cut cut (Took (w.word RecordWord p) (Type_at (suc n))) (r.a_record q p)
  unfolding r.a_record
  a_record p = word (k.Mark LeftBracket) refl refl (λ s. bind field_list (λ x. word (k.Mark RightBracket) refl refl (λ v. done (t.Record p x) (λ ws us o d. (g.a_record d.0, alone d.1)))))

  long_type : (p : Place) → Keeps cut cut (Took (w.word LongWord p) (Type_at (suc n))) (r.long_type q p)
  unfolding r.long_type
  long_type p = option_or {l = cut} (k.Word IntegerWord) (λ s. done (t.LongInteger p) (λ ws. (g.long_integer, refl)))
      (word (k.Word CardinalWord) refl refl (λ s. done (t.LongCardinal p) (λ ws. (g.long_cardinal, refl))))

  pub type_exp : Keeps cut cut (Type_at (suc n)) (r.type_exp q None)
  unfolding r.type_exp
  type_exp = nm.name_or type_from
      (option_or (k.Word IntegerWord) (λ p. after_base (Took (w.word IntegerWord p) (Type_at (suc n))) (OfInteger p) (t.Integer p) (λ us i rest o d. (g.subrange g.of_integer d.0, alone d.1)) (λ ws. (g.integer, refl)))
      (option_or (k.Word CardinalWord) (λ p. after_base (Took (w.word CardinalWord p) (Type_at (suc n))) (OfCardinal p) (t.Cardinal p) (λ us i rest o d. (g.subrange g.of_cardinal d.0, alone d.1)) (λ ws. (g.cardinal, refl)))
      (option_or (k.Word LongWord) long_type
      (option_or (k.Word CharacterWord) (λ p. after_base (Took (w.word CharacterWord p) (Type_at (suc n))) (OfCharacter p) (t.Character p) (λ us i rest o d. (g.subrange g.of_character d.0, alone d.1)) (λ ws. (g.character, refl)))
      (option_or {l = cut} (k.Word BooleanWord) (λ p. done (t.Boolean p) (λ ws. (g.boolean, refl)))
      (option_or {l = cut} (k.Word StringWord) (λ p. done (t.String p) (λ ws. (g.string, refl)))
      (option_or (k.Mark LeftBrace) enumeration (option_or (k.Word ArrayWord) array (option_or (k.Word RecordWord) a_record
      (bind (ke.interval n q inner) (λ i. done (t.Subrange Unsaid i) (λ ws us o d. (g.subrange g.unsaid d.0, alone d.1)))))))))))))

  pub type_begun : (i : Identifier) → Keeps cut cut (Took (spelled i) (Type_at (suc n))) (r.type_exp q (Some i))
  unfolding r.type_exp
  type_begun i = type_from i
