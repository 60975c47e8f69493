-- With one list of interfaces a text comes to one thing.
use Rattle.std.proofs.Common.{◌≡◌, ℕ, List, Ok, Err, refl, sym, ap, subst, ◌∙◌}
use Rattle.syntax_trees.specs.declared.syntax.Module.{Module}
use Rattle.syntax_trees.specs.PlainSyntax.{syntax}
use Rattle.syntax_trees.specs.Syntax as s
use Rattle.mesa_types.specs.Typed as t
use Rattle.interface_records.specs.declared.interface.Interface as records
use Rattle.check_rules.specs.Steps.{Checked, Fault, and_then}
use Rattle.check_rules.specs.CheckedModule.{checked, checked_definitions}
use Rattle.check_rules.specs.declared.fault.Cause.TheVariants.{StampMissing, StampUnwanted}
use Rattle.checked_texts.specs.Asked.{Purpose, Program, Interface, fits, name_files}
use Rattle.checked_texts.specs.Laws.{ProgramsComeToOne, DefinitionsComeToOne, FaultsComeInOrder}
use Rattle.checked_texts.specs.TextFaults as f
use Rattle.checked_texts.specs.TextFaults.{TextFault}
use Rattle.checked_texts.specs.Texts.{Begins, Reads, Defines, IsRefused, HasCheckFault}
use Rattle.checked_texts.proofs.Verdicts.{begins_once, one_tree, one_tree_of}

same_value : {A : Type 0} (a b : A) (r : Checked A) → r ≡ Ok a → r ≡ Ok b → a ≡ b
same_value {A = A} a b r h k = let e : ◌≡◌ {A = Checked A} (Ok a) (Ok b) = sym h ∙ k in inner a b e
  where
    inner : {A : Type 0} (a b : A) → ◌≡◌ {A = Checked A} (Ok a) (Ok b) → a ≡ b
    inner a b e = cc

same_fault : {A : Type 0} (a b : Fault) (r : Checked A) → r ≡ Err a → r ≡ Err b → a ≡ b
same_fault {A = A} a b r h k = let e : ◌≡◌ {A = Checked A} (Err a) (Err b) = sym h ∙ k in inner a b e
  where
    inner : {A : Type 0} (a b : Fault) → ◌≡◌ {A = Checked A} (Err a) (Err b) → a ≡ b
    inner a b e = cc

never : {A : Type 0} (a : A) (b : Fault) (r : Checked A) → r ≡ Ok a → r ≡ Err b → ⊥
never {A = A} a b r h k = let e : ◌≡◌ {A = Checked A} (Ok a) (Err b) = sym h ∙ k in inner a b e
  where
    inner : {A : Type 0} (a : A) (b : Fault) → ◌≡◌ {A = Checked A} (Ok a) (Err b) → ⊥
    inner a b e = cc

shown : Fault → TextFault
shown fault = f.Wrong fault.cause fault.place

-- one fault of checking, for each purpose
one_refusal : (purpose : Purpose) (m : s.Module) (is : List records.Interface) (a b : Fault) → IsRefused purpose m is a → IsRefused purpose m is b → a ≡ b
one_refusal Program m is a b h k = same_fault a b (checked m is) h k
one_refusal (Interface stamp) m is a b h k = same_fault a b (checked_definitions m stamp is) h k

one_check_fault : (text : List ℕ) (purpose : Purpose) (is : List records.Interface) (a b : TextFault) → HasCheckFault text purpose is a
    → HasCheckFault text purpose is b → a ≡ b
unfolding shown
one_check_fault text purpose is a b h k =
    let same : h.tree ≡ k.tree = one_tree text purpose h.tree k.tree h.begins k.begins in
    let moved = subst (λ (z : Module). IsRefused purpose (syntax z) is h.fault) same h.is_refused in
    h.is_it ∙ ap shown (one_refusal purpose (syntax k.tree) is h.fault k.fault moved k.is_refused) ∙ sym k.is_it

not_read_and_refused : (text : List ℕ) (is : List records.Interface) (m : t.Module) (a : TextFault) → Reads text is m → HasCheckFault text Program is a → ⊥
not_read_and_refused text is m a h k =
    let same : h.tree ≡ k.tree = one_tree text Program h.tree k.tree h.begins k.begins in
    never m k.fault (checked (syntax k.tree) is) (subst (λ (z : Module). checked (syntax z) is ≡ Ok m) same h.is_checked) k.is_refused

not_defined_and_refused : (text : List ℕ) (stamp : ℕ) (is : List records.Interface) (i : records.Interface) (a : TextFault) → Defines text stamp is i
    → HasCheckFault text (Interface stamp) is a → ⊥
not_defined_and_refused text stamp is i a h k =
    let same : h.tree ≡ k.tree = one_tree text (Interface stamp) h.tree k.tree h.begins k.begins in
    never i k.fault (checked_definitions (syntax k.tree) stamp is) (subst (λ (z : Module). checked_definitions (syntax z) stamp is ≡ Ok i) same h.is_checked)
    k.is_refused

one_module : (text : List ℕ) (is : List records.Interface) (m n : t.Module) → Reads text is m → Reads text is n → m ≡ n
one_module text is m n h k =
    let same : h.tree ≡ k.tree = one_tree text Program h.tree k.tree h.begins k.begins in
    same_value m n (checked (syntax k.tree) is) (subst (λ (z : Module). checked (syntax z) is ≡ Ok m) same h.is_checked) k.is_checked

one_interface : (text : List ℕ) (stamp : ℕ) (is : List records.Interface) (i j : records.Interface) → Defines text stamp is i → Defines text stamp is j → i ≡ j
one_interface text stamp is i j h k =
    let same : h.tree ≡ k.tree = one_tree text (Interface stamp) h.tree k.tree h.begins k.begins in
    same_value i j (checked_definitions (syntax k.tree) stamp is) (subst (λ (z : Module). checked_definitions (syntax z) stamp is ≡ Ok i) same h.is_checked)
    k.is_checked

pub programs : ProgramsComeToOne
programs = record {
  one_module = one_module;
  one_fault = λ text is. one_check_fault text Program is;
  never_both = not_read_and_refused;
}

pub definitions : DefinitionsComeToOne
definitions = record {
  one_interface = one_interface;
  one_fault = λ text stamp is. one_check_fault text (Interface stamp) is;
  never_both = not_defined_and_refused;
}

-- of what stands before the files, the stamp fits
fits_then : (r q : Checked (Unit {0})) → and_then r (λ _. q) ≡ Ok tt → r ≡ Ok tt
fits_then (Ok done) q e = refl
fits_then (Err a) q e = absurd (never tt a (Err a) e refl)

-- no kind fits both purposes
no_kind : (stamp : ℕ) (k : s.ModuleKind) → fits Program k ≡ Ok tt → fits (Interface stamp) k ≡ Ok tt → ⊥
no_kind stamp (s.Program p imports exports opens inner) h e = never tt (record { cause = StampUnwanted; place = p }) (fits (Interface stamp) (s.Program p imports exports opens inner)) e refl
no_kind stamp (s.Interface p opens defs) h e = never tt (record { cause = StampMissing; place = p }) (fits Program (s.Interface p opens defs)) h refl

one_kind : (text : List ℕ) (stamp : ℕ) (x y : Module) → Begins text Program x → Begins text (Interface stamp) y → ⊥
one_kind text stamp x y h k =
    let same : x ≡ y = one_tree_of text x y h.is_tree k.is_tree in
    no_kind stamp (syntax y).kind
    (subst (λ (z : Module). fits Program (syntax z).kind ≡ Ok tt) same
    (fits_then (fits Program (syntax x).kind) (name_files (syntax x).directory) h.is_well))
    (fits_then (fits (Interface stamp) (syntax y).kind) (name_files (syntax y).directory) k.is_well)

pub in_order : FaultsComeInOrder
in_order = record {
  not_read = λ text is m a h k. begins_once.never_both text Program k.tree a k.begins h;
  not_defined = λ text stamp is i a h k. begins_once.never_both text (Interface stamp) k.tree a k.begins h;
  not_refused = λ text purpose is a b h k. begins_once.never_both text purpose k.tree a k.begins h;
  one_kind = λ text stamp is js m i h k. one_kind text stamp h.tree k.tree h.begins k.begins;
}
