-- Texts by which a wrong definition is noticed: what weighs in a tree is what the text has of names and literals, and what is counted
-- of a module is there.
use Rattle.std.specs.Prelude.{◌≡◌, ℕ, ◌+◌, Bool, true, false, ◌&&◌, List, [], ◌∷◌, ◌++◌, Option, Some, None, Ok, Err, length, codes, nat_eq, nat_le, if◌then◌else◌}
use Rattle.std.proofs.Common.{refl}
use Rattle.interface_records.specs.PlainTypes.{PlainInterface}
use Rattle.syntax_trees.specs.Syntax as s
use Rattle.check_rules.specs.Typed as t
use Rattle.check_rules.specs.Steps.{Checked}
use Rattle.check_rules.specs.CheckedModule.{program_by}
use Rattle.check_rules.proofs.Everything.{everything}
use Rattle.check_rules.proofs.Lexing.{Token, Kind, Word, Text, tokens}
use Rattle.check_rules.proofs.Reading.{read}
use Rattle.check_rules.proofs.Texts.{interface}
use Rattle.checking_laws.specs.Sizes.{item_bytes, head_bytes, literal_bytes, written_bytes, imports_count, exports_count}
use Rattle.checking_laws.specs.UsedItems.{used_items}
use Rattle.checking_laws.specs.Weights as tree
use Rattle.checking_laws.specs.Weights.{Weights, one_each, in_bytes, module_weight}

-- The names of these texts begin with a small letter, and the words of the language with a capital one.
abbrev begins_small : List ℕ → Bool
begins_small [] = false
begins_small (c ∷ cs) = nat_le 97 c

abbrev weight_of : Weights → Token → ℕ
weight_of w x = by_kind x.kind
  where
    by_kind : Kind → ℕ
    by_kind Word = if begins_small x.text then w.of_name x.text else 0
    by_kind (Text bytes) = w.of_text bytes
    by_kind _ = 0

unfoldable token_weight : Weights → List Token → ℕ
token_weight w [] = 0
token_weight w (x ∷ xs) = weight_of w x + token_weight w xs

abbrev weighs_alike : Weights → List ℕ → Option (s.Module × List Token) → Bool
weighs_alike w text (Some r) = nat_eq (module_weight w r.0) (token_weight w (tokens text))
weighs_alike w text None = false

abbrev is_weighed : List ℕ → Bool
is_weighed text = weighs_alike one_each text (read text) && weighs_alike in_bytes text (read text)

abbrev in_program : List ℕ → List ℕ
in_program text = codes "mm: PROGRAM = BEGIN " ++ (text ++ codes " END.")

unfoldable pub weighing : ℕ
unfolding everything tree.module_weight tree.directory_weight tree.kind_weight tree.definitions_weight tree.defined_weight tree.inner_weight
    tree.declarations_weight tree.declared_weight tree.head_weight tree.maybe_fields_weight tree.type_weight tree.base_weight tree.repeat_weight
    tree.labels_weight tree.each_qualified_weight tree.each_name token_weight used_items item_bytes head_bytes literal_bytes imports_count
    exports_count
weighing = 0

lists_weigh : is_weighed (codes "DIRECTORY io: FROM \"\" USING [put, get], ab: FROM \"\"; m: PROGRAM IMPORTS io, ab EXPORTS ab = BEGIN OPEN io, ab; ENABLE io.s, t => NULL; x, yy: PUBLIC INTEGER; p: PROCEDURE [a, b: INTEGER, c: t] RETURNS [d: i.uu] = BEGIN END; s: SIGNAL [INTEGER, v] RETURNS [w] = CODE; e: ERROR [f: g] = CODE; x _ 1; EXITS l, mm => yy _ z END.") ≡ true
unfolding weighing
lists_weigh = refl

types_weigh : is_weighed (in_program (codes "t: TYPE = {red, green}; u: TYPE = nn[a..b]; v: TYPE = ARRAY k OF RECORD [f, g: h, j: q]; w: TYPE = RECORD [a, b.cc]; c: INTEGER = d; v: INTEGER _ eee;")) ≡ true
unfolding weighing
types_weigh = refl

expressions_weigh : is_weighed (in_program (codes "x _ a + b * c - (d) MOD -e; x _ NOT a = b AND c ~IN [dd..e) OR f; x _ [a: b, cc: d]; x _ [a, \"text\"]; x _ f[g: h ! i.jj => k _ l; ANY => NULL].mm[n].o; x _ SIGNAL p.q[r: s]; ERROR t[u]; ERROR")) ≡ true
unfolding weighing
expressions_weigh = refl

statements_weigh : is_weighed (in_program (codes "[a, b] _ c; [dd: e, f: g[h]] _ i; IF a THEN b _ c ELSE d _ e; SELECT a FROM b, > c, IN [d..e] => f _ g; h => NULL ENDCASE => i _ j; RETURN[a: b]; RESUME[c]")) ≡ true
unfolding weighing
statements_weigh = refl

loops_weigh : is_weighed (in_program (codes "FOR k IN [l..n] WHILE o DO ENABLE p => NULL; q _ r REPEAT s, tt => u _ v; FINISHED => w _ x ENDLOOP; THROUGH [a..b] UNTIL c DO GOTO ll ENDLOOP; BEGIN a, b: c; d: INTEGER = e; NULL; EXITS f, g => h _ i END")) ≡ true
unfolding weighing
loops_weigh = refl

definitions_weigh : is_weighed (codes "DIRECTORY io: FROM \"\"; m: DEFINITIONS = BEGIN OPEN io; p, q: PROCEDURE [a: b] RETURNS [c]; s: SIGNAL; e: ERROR [d]; t: TYPE = f; k: INTEGER = g + h; END.") ≡ true
unfolding weighing
definitions_weigh = refl

-- what is counted of a module: used items, written bytes, and the items of what it imports and exports
abbrev counts_of : Checked t.Module → List ℕ
counts_of (Ok x) =
    used_items x.imports ∷ written_bytes x ∷ imports_count (λ f. length f.items) x.imports ∷ exports_count (λ f. length f.items) x.exports ∷ []
counts_of (Err f) = []

abbrev counts : List PlainInterface → Option (s.Module × List Token) → List ℕ
counts is (Some r) = counts_of (program_by r.0 is r.0.kind)
counts is None = []

abbrev given : List PlainInterface
given = interface 10 (codes "i: DEFINITIONS = BEGIN p: PROCEDURE; q: PROCEDURE; s: SIGNAL; r: PROCEDURE; END.")
    ++ interface 11 (codes "j: DEFINITIONS = BEGIN t: PROCEDURE; v: PROCEDURE; END.")

counted : counts given (read (codes "DIRECTORY i: FROM \"\", j: FROM \"\"; m: PROGRAM IMPORTS i EXPORTS j = BEGIN ab: SIGNAL = CODE; cde: PROCEDURE = BEGIN END; x: STRING _ \"hello\"; y: STRING _ \"hello\"; i.p; i.p; i.q[! i.s => NULL] END.")) ≡ 3 ∷ 11 ∷ 4 ∷ 2 ∷ []
unfolding weighing
counted = refl
