-- An object of a checked module can be spelled, and is whole.
use Rattle.std.proofs.Common.{◌≡◌, ℕ, zero, suc, ◌+◌, true, List, [], ◌∷◌, length, map, Some, slice_get, refl, sym, ap, subst, ◌∙◌, arith}
use Rattle.std.specs.Prelude.{All, ◌&&◌, nat_eq, nat_lt, option_map}
use Rattle.std.specs.List.{AllAdjacentBelow}
use Rattle.std.proofs.lemmas.Bool.{and_from, eq-eqb, lt-ltb}
use Rattle.std.proofs.lemmas.List.Elements.{All-map, All-nil, All-cons}
use Rattle.std.proofs.lemmas.Option.{none-some, same_Some, slice_get-map}
use Rattle.mesa_base.specs.Name.{IsName}
use Rattle.mesa_types.proofs.KindWords.{shapes_take_their_words}
use Rattle.mesa_types.specs.Links.{links_of}
use Rattle.mesa_types.specs.Sound.{Sound, IsGiven, PairIn, ExportIn}
use Rattle.mesa_types.specs.Typed.{Module, Procedure}
use Rattle.mesa_types.specs.Types.{types_in}
use Rattle.mesa_types.specs.Types as types
use Rattle.mesa_types.specs.declared.faces.Export.{Export}
use Rattle.mesa_types.specs.declared.faces.Face.{Face}
use Rattle.mesa_types.specs.declared.faces.Item.{Item}
use Rattle.mesa_types.specs.declared.faces.ItemKind.{ItemKind}
use Rattle.mesa_types.specs.declared.faces.ItemKind.TheVariants as item
use Rattle.mesa_types.specs.declared.faces.Pair.{Pair}
use Rattle.mesa_types.specs.declared.faces.Shape.{Shape}
use Rattle.check_rules.specs.Laws.{NamedThroughout}
use Rattle.interface_records.specs.Spelled.{ExportCanBeSpelled, ShapeCanBeSpelled}
use Rattle.code_forms.specs.declared.module_code.CodeEntry.{CodeEntry}
use Rattle.code_forms.specs.declared.module_code.CodeLink.{CodeLink}
use Rattle.code_forms.specs.declared.module_code.CodeProcedure.{CodeProcedure}
use Rattle.code_forms.specs.declared.module_code.CodeSignal.{CodeSignal}
use Rattle.code_forms.specs.Instructions.{bytes_of}
use Rattle.code_forms.specs.Ranges.{InOrder, ProcedureInRange}
use Rattle.code_forms.specs.Routine.{Routine, routine_with}
use Rattle.code_forms.specs.Same.{bare_entry, bare_procedure, with_code}
use Rattle.code_rules.specs.Modules as code
use Rattle.code_rules.specs.Modules.{ProceduresCode}
use Rattle.object_files.specs.declared.object.Object.{Object}
use Rattle.object_rules.specs.ModuleForms.{has_sizes, is_of_kind, procedure_gives, signal_gives, gives_as, gives_item}
use Rattle.object_rules.specs.Parts.{instructions, procedure_part, procedure_code, entries_from, kind_code, link_code, link_codes}
use Rattle.read_files.proofs.Images.{same_words}
use Rattle.built_files.specs.Laws.{IsObjectOf, ObjectsOfModulesFit, ObjectsOfModulesAreWhole}
use Rattle.built_files.specs.Objects.{GivesItems, CodeCanBeSpelled}
use Rattle.built_files.proofs.CodeFits.{Joins, joined_rest}
use Rattle.built_files.proofs.ObjectFits.{objects_fit}

-- ---- links

kind_same : (k : ItemKind) → code.kind_code k ≡ kind_code k
kind_same item.Procedure = refl
kind_same item.Signal = refl
kind_same item.Error = refl

link_same : (i : Item) → code.link_code i ≡ link_code i
link_same i = rw (kind_same i.kind, shapes_take_their_words.of_fields i.takes, shapes_take_their_words.of_fields i.gives) refl

links_same : (is : List Item) → map code.link_code is ≡ map link_code is
links_same [] = refl
links_same (i ∷ is) = ap (λ l. l ∷ map code.link_code is) (link_same i) ∙ ap (λ ls. link_code i ∷ ls) (links_same is)

-- ---- entries stand where the one before ends

entries : (at : ℕ) (e : CodeEntry) (all : List CodeEntry) → e.at ≡ at → AllAdjacentBelow Joins (e ∷ all) (length (e ∷ all)) → map bare_entry (e ∷ all) ≡ entries_from at (instructions (e ∷ all))
unfolding entries_from
entries at e [] is j = ap (λ n. record { at = n; depth = 0; instruction = e.instruction } ∷ []) is
entries at e (f ∷ all) is j =
    let here : e.at + bytes_of e.instruction ≡ f.at = j zero e (omega arith) in
    ap (λ n. record { at = n; depth = 0; instruction = e.instruction } ∷ map bare_entry (f ∷ all)) is
    ∙ ap (λ es. record { at = at; depth = 0; instruction = e.instruction } ∷ es)
    (entries (at + bytes_of e.instruction) f all (sym here ∙ ap (λ n. n + bytes_of e.instruction) is) (joined_rest e (f ∷ all) j))

in_order : (all : List CodeEntry) → InOrder all → map bare_entry all ≡ entries_from 0 (instructions all)
unfolding entries_from
in_order [] h = refl
in_order (e ∷ all) h = entries 0 e all (h.first e) h.joined

each_bare : (signals : List CodeSignal) (links : List CodeLink) (all : List CodeProcedure) → All (ProcedureInRange signals links) all → map bare_procedure all ≡ map procedure_code (map procedure_part all)
each_bare signals links [] h = refl
each_bare signals links (p ∷ all) h =
    ap (λ es. with_code p es ∷ map bare_procedure all) (in_order p.code (h zero p (omega arith)).code)
    ∙ ap (λ ps. procedure_code (procedure_part p) ∷ ps) (each_bare signals links all (λ k d less. h (suc k) d (omega (arith, less))))

pub objects_are_whole : ObjectsOfModulesAreWhole
objects_are_whole m o h = record {
  name = h.code.named ∙ sym (ap (λ (s : Shape). s.name) h.shape);
  links = h.code.each_link ∙ (links_same (links_of m.imports) ∙ ap (λ (s : Shape). link_codes s.imports) (sym h.shape));
  entries = each_bare o.code.signals o.code.links o.code.procedures h.ranges.each_procedure;
  valid = h.valid;
}

-- ---- names of procedures

abbrev head_name : Procedure → Type 0
head_name p = IsName p.head.name

named : (m : Module) (routine : CodeProcedure → Routine) (ps : List Procedure) (cs : List CodeProcedure) → ProceduresCode m routine ps cs → All head_name ps
    → All (λ (c : CodeProcedure). IsName c.name) cs
named m routine [] [] h n = All-nil (λ (c : CodeProcedure). IsName c.name)
named m routine [] (c ∷ cs) h n = absurd h
named m routine (p ∷ ps) [] h n = absurd h
named m routine (p ∷ ps) (c ∷ cs) h n =
    All-cons (λ (d : CodeProcedure). IsName d.name) c cs (subst IsName (sym h.0.name) (n zero p (omega arith)))
    (named m routine ps cs h.1 (λ k d less. n (suc k) d (omega (arith, less))))

-- ---- what is given

record CodeThere (cs : List CodeProcedure) (k : ℕ) (head : Item) : Type 0 where
  its : CodeProcedure
  there : slice_get cs k ≡ Some its
  args : its.args ≡ code.words_of_fields head.takes
  results : its.results ≡ code.words_of_fields head.gives

abbrev head_of : Procedure → Item
head_of p = p.head

code_there : (m : Module) (routine : CodeProcedure → Routine) (ps : List Procedure) (cs : List CodeProcedure) → ProceduresCode m routine ps cs → (k : ℕ) (head : Item)
    → slice_get (map head_of ps) k ≡ Some head → CodeThere cs k head
code_there m routine [] cs h k head e = absurd (none-some head e)
code_there m routine (p ∷ ps) [] h k head e = absurd h
code_there m routine (p ∷ ps) (c ∷ cs) h zero head e =
    let same = same_Some p.head head e in
    record {
      its = c;
      there = refl;
      args = h.0.args ∙ ap (λ (i : Item). code.words_of_fields i.takes) same;
      results = h.0.results ∙ ap (λ (i : Item). code.words_of_fields i.gives) same;
    }
code_there m routine (p ∷ ps) (c ∷ cs) h (suc k) head e =
    let more = code_there m routine ps cs h.1 k head e in
    record { its = more.its; there = more.there; args = more.args; results = more.results }

sizes : (wanted given : Item) (args results : ℕ) → args ≡ code.words_of_fields given.takes → results ≡ code.words_of_fields given.gives
    → types_in given.takes ≡ types_in wanted.takes → types_in given.gives ≡ types_in wanted.gives → has_sizes wanted args results ≡ true
sizes wanted given args results a r t g =
    and_from (nat_eq args (types.words_of_fields wanted.takes)) (nat_eq results (types.words_of_fields wanted.gives))
    (eq-eqb args (types.words_of_fields wanted.takes) (a ∙ (shapes_take_their_words.of_fields given.takes ∙ same_words given.takes wanted.takes t)))
    (eq-eqb results (types.words_of_fields wanted.gives) (r ∙ (shapes_take_their_words.of_fields given.gives ∙ same_words given.gives wanted.gives g)))

signal_of_kind : (wanted given k : ItemKind) → wanted ≡ k → given ≡ k → is_of_kind k (code.kind_code k) ≡ true → is_of_kind wanted (code.kind_code given) ≡ true
signal_of_kind wanted given k w g h = subst (λ a. is_of_kind a (code.kind_code given) ≡ true) (sym w) (subst (λ a. is_of_kind k (code.kind_code a) ≡ true) (sym g) h)

module _ (m : Module) (o : Object) (h : IsObjectOf m o) where
  signal_there : (n : ℕ) (given : Item) → slice_get m.signals n ≡ Some given → slice_get o.code.signals n ≡ Some (code.signal_code given)
  signal_there n given e = ap (λ ss. slice_get ss n) h.code.each_signal ∙ (slice_get-map code.signal_code m.signals n ∙ ap (option_map code.signal_code) e)

  signal_given : (wanted given : Item) (k : ItemKind) (n : ℕ) → wanted.kind ≡ k → given.kind ≡ k → is_of_kind k (code.kind_code k) ≡ true → slice_get m.signals n ≡ Some given
      → types_in given.takes ≡ types_in wanted.takes → types_in given.gives ≡ types_in wanted.gives → signal_gives wanted (slice_get o.code.signals n) ≡ true
  signal_given wanted given k n w g of e t s =
      subst (λ q. signal_gives wanted q ≡ true) (sym (signal_there n given e))
      (and_from (is_of_kind wanted.kind (code.kind_code given.kind)) (has_sizes wanted (code.words_of_fields given.takes) (code.words_of_fields given.gives))
      (signal_of_kind wanted.kind given.kind k w g of)
      (sizes wanted given (code.words_of_fields given.takes) (code.words_of_fields given.gives) refl refl t s))

  procedure_given : (wanted given : Item) (k : ℕ) → slice_get (map head_of m.procedures) k ≡ Some given
      → types_in given.takes ≡ types_in wanted.takes → types_in given.gives ≡ types_in wanted.gives
      → nat_lt 0 (suc k) && procedure_gives wanted (slice_get (map procedure_part o.code.procedures) (suc k)) ≡ true
  procedure_given wanted given k e t s =
      let c = code_there m (routine_with o.code.global_words (length o.code.strings) o.code.signals o.code.links o.code.procedures) (code.procedures_of m) o.code.procedures h.code.each_procedure (suc k) given e in
      and_from (nat_lt 0 (suc k)) (procedure_gives wanted (slice_get (map procedure_part o.code.procedures) (suc k))) (lt-ltb 0 (suc k) (omega arith))
      (subst (λ q. procedure_gives wanted q ≡ true) (sym (slice_get-map procedure_part o.code.procedures (suc k) ∙ ap (option_map procedure_part) c.there))
      (sizes wanted given c.its.args c.its.results c.args c.results t s))

  given_by : (k : ItemKind) (wanted given : Item) (n : ℕ) → wanted.kind ≡ k → IsGiven m k n given
      → types_in given.takes ≡ types_in wanted.takes → types_in given.gives ≡ types_in wanted.gives
      → gives_as k o.code.signals (map procedure_part o.code.procedures) wanted n ≡ true
  unfolding IsGiven
  given_by item.Procedure wanted given n w g t s =
      subst (λ a. nat_lt 0 a && procedure_gives wanted (slice_get (map procedure_part o.code.procedures) a) ≡ true) (sym g.1) (procedure_given wanted given g.0 g.2 t s)
  given_by item.Signal wanted given n w g t s = signal_given wanted given item.Signal n w g.1 refl g.0 t s
  given_by item.Error wanted given n w g t s = signal_given wanted given item.Error n w g.1 refl g.0 t s

  pair_given : (f : Face) (p : Pair) → PairIn m f p → gives_item o.code.signals (map procedure_part o.code.procedures) (slice_get f.items p.item) p.number ≡ true
  pair_given f p q =
      subst (λ i. gives_item o.code.signals (map procedure_part o.code.procedures) i p.number ≡ true) (sym q.is_wanted)
      (given_by q.wanted.kind q.wanted q.given p.number refl q.is_given q.takes q.gives)

  export_gives : (e : Export) → ExportIn m e → ExportCanBeSpelled e → GivesItems o.code e
  unfolding ExportIn
  export_gives e x c k d less = (c.numbers k d less, pair_given e.face _ (x.2 k d less))

  can_be_spelled : Sound m → NamedThroughout m → ShapeCanBeSpelled o.shape → CodeCanBeSpelled o
  can_be_spelled sound names s =
      let exports = subst (All (ExportIn m)) (sym (ap (λ (x : Shape). x.exports) h.shape)) sound.exports in
      let first : IsName m.name = subst IsName (ap (λ (x : Shape). x.name) h.shape) s.name in
      record {
        ranges = h.ranges;
        numbers = h.numbers;
        texts = h.texts;
        links = (objects_are_whole m o h).links;
        signals = subst (All (λ (x : CodeSignal). IsName x.name)) (sym h.code.each_signal) (All-map (λ (x : CodeSignal). IsName x.name) code.signal_code m.signals names.signals);
        procedures = named m (routine_with o.code.global_words (length o.code.strings) o.code.signals o.code.links o.code.procedures) (code.procedures_of m) o.code.procedures h.code.each_procedure
            (All-cons head_name (code.main_of m) m.procedures first names.procedures);
        exports = λ k d less. export_gives _ (exports k d less) (s.exports k d less);
      }

pub objects_of_modules_fit : ObjectsOfModulesFit
objects_of_modules_fit m o sound names s h = objects_fit o s (can_be_spelled m o h sound names s)
