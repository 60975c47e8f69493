-- What a file, a text or a tree comes to is one thing.
use Rattle.std.proofs.Common.{◌≡◌, ℕ, List, Option, Some, None, Ok, Err, codes, refl, sym, ◌∙◌, ap, subst}
use Rattle.mesa_base.specs.declared.place.Place.{Place}
use Rattle.mesa_lexer.specs.Tokens.{HasTokens, HasLexFault}
use Rattle.mesa_lexer.specs.declared.token.Tokens.{Tokens}
use Rattle.mesa_lexer.specs.declared.fault.LexFault.{LexFault}
use Rattle.mesa_lexer.specs.declared.fault.SyntaxFault.{SyntaxFault}
use Rattle.mesa_lexer.specs.declared.fault.SyntaxFault.TheVariants as syntax
use Rattle.mesa_lexer.proofs.Walks as lexer
use Rattle.token_cursor.specs.Grammars.{Why, Unexpected, TooDeep}
use Rattle.interface_records.specs.declared.interface.Interface as records
use Rattle.cmesa_grammar.specs.Answer.{Answer, Tree as TreeOf, Fault as FaultOf, Answers, IsFault, HasSyntaxFault, unexpected as unexpected_token, too_deep as too_deep_token, place_of}
use Rattle.cmesa_grammar.specs.Plain.{plain}
use Rattle.cmesa_grammar.specs.Syntax.{Config}
use Rattle.cmesa_grammar.specs.declared.syntax.Config as written
use Rattle.cmesa_grammar.proofs.Whole as grammar
use Rattle.config_rules.specs.Components.{no_file_base}
use Rattle.config_rules.specs.Resolves.{Want, wants, first_bad}
use Rattle.config_rules.specs.Through as through
use Rattle.config_rules.specs.declared.fault.TreeCause.TheVariants.{UnknownComponent}
use Rattle.config_rules.specs.declared.fault.TreeFault.TheVariants as tree_fault
use Rattle.config_rules.specs.declared.tree.Tree.{Tree}
use Rattle.command_rules.specs.import_binder.specs.Bindings.{fault_of}
use Rattle.face_rules.specs.InterfaceForms.{interface}
use Rattle.face_rules.proofs.InterfaceLaws.{interface_law}
use Rattle.file_forms.proofs.FileLaws.{one_file, one_first_fault, file_or_fault}
use Rattle.object_rules.specs.ImageForms.{parts_of_image, image_form}
use Rattle.object_rules.specs.ModuleForms.{module_form}
use Rattle.object_rules.specs.ObjectFiles.{file_fault}
use Rattle.object_rules.specs.Parts.{parts_of}
use Rattle.object_rules.proofs.ImageFileLaws.{one_image_fault, image_or_fault}
use Rattle.object_rules.proofs.ImageLaws.{image_law}
use Rattle.object_rules.proofs.ModuleLaws.{module_law}
use Rattle.object_rules.proofs.ObjectLaws.{one_object_fault, object_or_fault}
use Rattle.command_rules.specs.checked_texts.specs.declared.purpose.Purpose.{Purpose}
use Rattle.command_rules.specs.checked_texts.specs.Laws.{TextsBeginOnce, ProgramsComeToOne, DefinitionsComeToOne}
use Rattle.command_rules.specs.checked_texts.specs.declared.text_fault.TextFault.TheVariants.{Lexical, Syntactic}
use Rattle.command_rules.specs.Case.{Case, Refused, Usage}
use Rattle.command_rules.specs.declared.trouble.Trouble.TheVariants.{Text, Tree as OfTree, File, Item}
use Rattle.command_rules.specs.Configurations.{Configures, configured, lexical, syntactic, no_base, Grows, grown, fault, Binds, bound, bad}
use Rattle.command_rules.specs.Modules.{Decodes, is_file, Begins, begun, refused, Checks, checked, Defines, defined}
use Rattle.command_rules.specs.Objects.{HoldsObject, is_object, HoldsImage, is_image}
use Rattle.command_rules.specs.Passes.{Outcome, Has, Stops}
use Rattle.command_rules.proofs.PassLaws.{One}

-- ---- interface files

pub decodes_one : (file bytes : List ℕ) → One (Decodes file bytes)
decodes_one file bytes o r (is_file v i h) (is_file w j k) = ap Has (one_file (codes "MIF") interface interface_law v w i j bytes h k).1
decodes_one file bytes o r (is_file v i h) (Decodes.is_none why k) = absurd (file_or_fault (codes "MIF") interface interface_law refl v i bytes why h k)
decodes_one file bytes o r (Decodes.is_none why k) (is_file v i h) = absurd (file_or_fault (codes "MIF") interface interface_law refl v i bytes why h k)
decodes_one file bytes o r (Decodes.is_none why k) (Decodes.is_none more h) =
    ap (λ e. Stops (Refused file (File (file_fault e)))) (one_first_fault (codes "MIF") interface interface_law refl bytes why more k h)

-- ---- object and image files

pub object_one : (file bytes : List ℕ) → One (HoldsObject file bytes)
object_one file bytes o r (is_object v a h) (is_object w b k) =
    ap Has (one_file (codes "MOB") module_form module_law v w (parts_of a) (parts_of b) bytes h.file k.file).1
object_one file bytes o r (is_object v a h) (HoldsObject.is_none why k) = absurd (object_or_fault v a bytes why h k)
object_one file bytes o r (HoldsObject.is_none why k) (is_object v a h) = absurd (object_or_fault v a bytes why h k)
object_one file bytes o r (HoldsObject.is_none why k) (HoldsObject.is_none more h) =
    ap (λ e. Stops (Refused file (File e))) (one_object_fault bytes why more k h)

pub image_one : (file bytes : List ℕ) → One (HoldsImage file bytes)
image_one file bytes o r (is_image v a h) (is_image w b k) =
    ap Has (one_file (codes "MIM") image_form image_law v w (parts_of_image a) (parts_of_image b) bytes h.file k.file).1
image_one file bytes o r (is_image v a h) (HoldsImage.is_none why k) = absurd (image_or_fault v a bytes why h k)
image_one file bytes o r (HoldsImage.is_none why k) (is_image v a h) = absurd (image_or_fault v a bytes why h k)
image_one file bytes o r (HoldsImage.is_none why k) (HoldsImage.is_none more h) =
    ap (λ e. Stops (Refused file (File e))) (one_image_fault bytes why more k h)

-- ---- texts

pub begins_one : TextsBeginOnce → (file : List ℕ) (purpose : Purpose) (bytes : List ℕ) → One (Begins file purpose bytes)
begins_one law file purpose bytes o r (begun x h) (begun y k) = ap (λ t. Has (bytes, t)) (law.one_tree bytes purpose x y h k)
begins_one law file purpose bytes o r (begun x h) (refused f k) = absurd (law.never_both bytes purpose x f h k)
begins_one law file purpose bytes o r (refused f k) (begun x h) = absurd (law.never_both bytes purpose x f h k)
begins_one law file purpose bytes o r (refused f h) (refused g k) = ap (λ e. Stops (Refused file (Text e))) (law.one_fault bytes purpose f g h k)

pub checks_one : ProgramsComeToOne → (file bytes : List ℕ) (all : List records.Interface) → One (Checks file bytes all)
checks_one law file bytes all o r (checked m h) (checked n k) = ap Has (law.one_module bytes all m n h k)
checks_one law file bytes all o r (checked m h) (Checks.wrong f k) = absurd (law.never_both bytes all m f h k)
checks_one law file bytes all o r (Checks.wrong f k) (checked m h) = absurd (law.never_both bytes all m f h k)
checks_one law file bytes all o r (Checks.wrong f h) (Checks.wrong g k) = ap (λ e. Stops (Refused file (Text e))) (law.one_fault bytes all f g h k)

pub defines_one : DefinitionsComeToOne → (file : List ℕ) (stamp : ℕ) (bytes : List ℕ) (all : List records.Interface) → One (Defines file stamp bytes all)
defines_one law file stamp bytes all o r (defined i h) (defined j k) = ap Has (law.one_interface bytes stamp all i j h k)
defines_one law file stamp bytes all o r (defined i h) (Defines.wrong f k) = absurd (law.never_both bytes stamp all i f h k)
defines_one law file stamp bytes all o r (Defines.wrong f k) (defined i h) = absurd (law.never_both bytes stamp all i f h k)
defines_one law file stamp bytes all o r (Defines.wrong f h) (Defines.wrong g k) =
    ap (λ e. Stops (Refused file (Text e))) (law.one_fault bytes stamp all f g h k)

-- ---- configurations

-- what the text of one comes to: a lexical fault, or tokens with their answer
data Verdict : Type 0 where
  OfBytes : LexFault → Verdict
  OfTokens : Tokens → Answer → Verdict

data Reaches (bytes : List ℕ) : Verdict → Type 0 where
  of_bytes : (f : LexFault) → HasLexFault bytes f → Reaches bytes (OfBytes f)
  of_tokens : (ts : Tokens) (a : Answer) → HasTokens bytes ts → Answers ts.items a → Reaches bytes (OfTokens ts a)

one_answer : (ts : Tokens) (a b : Answer) → Answers ts.items a → Answers ts.items b → a ≡ b
one_answer ts a b x y = (grammar.one_answer ts.items).only a x ∙ sym ((grammar.one_answer ts.items).only b y)

same_tokens : (bytes : List ℕ) (ts us : Tokens) (a b : Answer) → HasTokens bytes ts → HasTokens bytes us → Answers ts.items a → Answers us.items b
    → OfTokens ts a ≡ OfTokens us b
same_tokens bytes ts us a b h k x y =
    let e : ts ≡ us = (lexer.one_answer bytes).one_list ts us h k in
    ap (λ q. OfTokens q a) e ∙ ap (λ z. OfTokens us z) (one_answer us a b (subst (λ (q : Tokens). Answers q.items a) e x) y)

one_verdict : (bytes : List ℕ) (v u : Verdict) → Reaches bytes v → Reaches bytes u → v ≡ u
one_verdict bytes v u (of_bytes f h) (of_bytes g k) = ap OfBytes ((lexer.one_answer bytes).one_fault f g h k)
one_verdict bytes v u (of_bytes f h) (of_tokens ts a k x) = absurd ((lexer.one_answer bytes).never_both ts f k h)
one_verdict bytes v u (of_tokens ts a k x) (of_bytes f h) = absurd ((lexer.one_answer bytes).never_both ts f k h)
one_verdict bytes v u (of_tokens ts a h x) (of_tokens us b k y) = same_tokens bytes ts us a b h k x y

syntax_fault : Why → Place → SyntaxFault
syntax_fault Unexpected place = syntax.Unexpected place
syntax_fault TooDeep place = syntax.TooDeep place

based : (file : List ℕ) → Config → Option Place → Outcome Case Config
based file c None = Has c
based file c (Some place) = Stops (Refused file (OfTree UnknownComponent place))

shown : (file : List ℕ) → Verdict → Outcome Case Config
shown file (OfBytes f) = Stops (Refused file (Text (Lexical f)))
shown file (OfTokens ts (FaultOf why at)) = Stops (Refused file (Text (Syntactic (syntax_fault why (place_of ts.items ts.end at)))))
shown file (OfTokens ts (TreeOf c)) = based file (plain c) (no_file_base (plain c).directory)

-- the text comes to a verdict that shows this
record Shows (file bytes : List ℕ) (o : Outcome Case Config) : Type 0 where
  verdict : Verdict
  reached : Reaches bytes verdict
  shows : shown file verdict ≡ o

of_stop : (file bytes : List ℕ) (why : Why) (place : Place) (ts : Tokens) → HasTokens bytes ts → IsFault ts.items ts.end why place
    → Shows file bytes (Stops (Refused file (Text (Syntactic (syntax_fault why place)))))
unfolding shown
of_stop file bytes why place ts h stops = record {
  verdict = OfTokens ts (FaultOf why stops.at);
  reached = of_tokens ts (FaultOf why stops.at) h stops.fault;
  shows = ap (λ p. Stops (Refused file (Text (Syntactic (syntax_fault why p))))) (sym stops.here);
}

of_syntax : (file bytes : List ℕ) (f : SyntaxFault) (ts : Tokens) → HasTokens bytes ts → HasSyntaxFault ts.items ts.end f
    → Shows file bytes (Stops (Refused file (Text (Syntactic f))))
unfolding syntax_fault
of_syntax file bytes (syntax.Unexpected place) ts h (unexpected_token stops) = of_stop file bytes Unexpected place ts h stops
of_syntax file bytes (syntax.TooDeep place) ts h (too_deep_token stops) = of_stop file bytes TooDeep place ts h stops
of_syntax file bytes syntax.Memory ts h x = elim x [ ]

of_tree : (file bytes : List ℕ) (ts : Tokens) (c : written.Config) (base : Option Place) → HasTokens bytes ts → Answers ts.items (TreeOf c)
    → no_file_base (plain c).directory ≡ base → Shows file bytes (based file (plain c) base)
unfolding shown
of_tree file bytes ts c base h parses is = record {
  verdict = OfTokens ts (TreeOf c);
  reached = of_tokens ts (TreeOf c) h parses;
  shows = ap (based file (plain c)) is;
}

shows_so : (file bytes : List ℕ) (o : Outcome Case Config) → Configures file bytes o → Shows file bytes o
unfolding shown based
shows_so file bytes o (configured ts c h parses none) = of_tree file bytes ts c None h parses none
shows_so file bytes o (lexical f h) = record { verdict = OfBytes f; reached = of_bytes f h; shows = refl }
shows_so file bytes o (syntactic ts f h has) = of_syntax file bytes f ts h has
shows_so file bytes o (no_base ts c place h parses some) = of_tree file bytes ts c (Some place) h parses some

pub configures_one : (file bytes : List ℕ) → One (Configures file bytes)
configures_one file bytes o r x y =
    let a = shows_so file bytes o x in let b = shows_so file bytes r y in
    sym a.shows ∙ ap (shown file) (one_verdict bytes a.verdict b.verdict a.reached b.reached) ∙ b.shows

-- ---- trees

grown_as : (file : List ℕ) → through.Answer Tree → Outcome Case Tree
grown_as file (Ok t) = Has t
grown_as file (Err (tree_fault.At cause place)) = Stops (Refused file (OfTree cause place))
grown_as file (Err tree_fault.Memory) = Stops Usage

pub grows_one : (file : List ℕ) (is_tree : through.Answer Tree → Type 0) → ((a b : through.Answer Tree) → is_tree a → is_tree b → a ≡ b)
    → One (Grows file is_tree)
unfolding grown_as
grows_one file is_tree one o r (grown t h) (grown u k) = ap (grown_as file) (one (Ok t) (Ok u) h k)
grows_one file is_tree one o r (grown t h) (fault c p k) = ap (grown_as file) (one (Ok t) (Err (tree_fault.At c p)) h k)
grows_one file is_tree one o r (fault c p k) (grown t h) = ap (grown_as file) (one (Err (tree_fault.At c p)) (Ok t) k h)
grows_one file is_tree one o r (fault c p k) (fault d q h) = ap (grown_as file) (one (Err (tree_fault.At c p)) (Err (tree_fault.At d q)) k h)

bound_as : (file : List ℕ) (t : Tree) → Option Want → Outcome Case (Unit {0})
bound_as file t None = Has tt
bound_as file t (Some w) = Stops (Refused file (Item (fault_of t w)))

bound_so : (file : List ℕ) (t : Tree) (o : Outcome Case (Unit {0})) → Binds file t o → o ≡ bound_as file t (first_bad (wants t))
unfolding bound_as
bound_so file t o (bound none) = ap (bound_as file t) (sym none)
bound_so file t o (bad w some) = ap (bound_as file t) (sym some)

pub binds_one : (file : List ℕ) (t : Tree) → One (Binds file t)
binds_one file t o r x y = bound_so file t o x ∙ sym (bound_so file t r y)
