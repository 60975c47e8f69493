-- The signals of an instance, and what a used item of a signal or error is bound to.
use Rattle.std.proofs.Common.{◌≡◌, ⊎_elim, ℕ, zero, suc, ◌+◌, ◌<◌, ◌⊎◌, List, [], ◌∷◌, ◌++◌, length, map, Bool, true, false, Option, Some, None, refl, sym, ap, ◌∙◌, subst, get_or, arith}
use Rattle.std.specs.Prelude.{All, Contains, nat_eq, slice_get, option_map, option_and_then, if◌then◌else◌}
use Rattle.std.proofs.lemmas.Bool.{eq-eqb, eqb-true, false≢true}
use Rattle.std.proofs.lemmas.Option.{none-some, same_Some, slice_get-map, slice_get_cases}
use Rattle.mesa_types.specs.declared.faces.Import.{Import}
use Rattle.mesa_types.specs.declared.faces.Item.{Item}
use Rattle.mesa_types.specs.declared.faces.ItemKind.{ItemKind}
use Rattle.mesa_types.specs.declared.faces.ItemKind.TheVariants as item
use Rattle.mesa_types.specs.declared.types.FieldType.{FieldType, out-FieldType, roll-out-FieldType}
use Rattle.mesa_types.specs.declared.types.TypeTree.TheFolds.{fold-roll-FieldType}
use Rattle.mesa_types.specs.Typed as t
use Rattle.mesa_types.specs.Typed.{Kinds}
use Rattle.mesa_types.specs.Links.{item_in, imported, UsedIn, IsUsed, items_used, links_of}
use Rattle.mesa_types.specs.Plain.{Shaped, shape_step, field_kind_step, field_kind, kinds, kind_of, kinds_of}
use Rattle.mesa_types.specs.Shapes.{count_in}
use Rattle.mesa_types.specs.Sound.{ImportIn, IsGiven, IsSignal}
use Rattle.mesa_types.specs.Types.{types_in}
use Rattle.code_forms.specs.declared.module_code.ModuleCode.{ModuleCode}
use Rattle.object_files.specs.declared.image.Link.{Link}
use Rattle.object_files.specs.declared.image.Link.TheVariants.{Wanted, To}
use Rattle.signaller.specs.declared.signal_id.SignalId.TheVariants as id
use Rattle.source_meaning.specs.Program as source
use Rattle.source_meaning.specs.Program.{Signal, SignalOf, BoundsFault, ZeroDivisor, NoInput, Unnamed, Target, ToProcedure, ToHost, ToSignal, module_of, instance_of, or_else, no_instance, no_module, signal_in, linked_signal}
use Rattle.source_meaning.specs.Lawful.{StandsFor}
use Rattle.machine_rules.specs.LookUps.{signal_of, link_of, bound_to, signal_bound}
use Rattle.code_rules.specs.Links.{rank, link_number}
use Rattle.code_rules.specs.Modules.{signal_code, link_code, kind_code}
use Rattle.agreement_rules.specs.Agreement.{id_of}
use Rattle.agreement_rules.specs.Stands.{BoundTo}
use Rattle.agreement_laws.specs.World.{World, Ready}
use Rattle.agreement_laws.specs.Promises.{SignalHas}
use Rattle.agreement_laws.proofs.Instances.{InstanceThere, instance_there}

-- Its signals.

signal_by : (W : World) → Ready W → (j k : ℕ) (i : Item) (o : Option source.Instance) → slice_get W.program.instances j ≡ o
    → slice_get (or_else no_instance o).code.signals k ≡ Some i → signal_of W.image j k ≡ Some (signal_code i)
unfolding or_else no_instance no_module signal_of
signal_by W ready j k i None is there = absurd (none-some i there)
signal_by W ready j k i (Some m) is there =
    let x = instance_there W ready j m is in
    ap (λ o. option_and_then (λ (c : ModuleCode). slice_get c.signals k) o) x.is_code
    ∙ ap (λ l. slice_get l k) x.stands.code.each_signal ∙ slice_get-map signal_code m.code.signals k ∙ ap (λ o. option_map signal_code o) there

pub signal_there : (W : World) → Ready W → (j k : ℕ) (i : Item) → slice_get (module_of W.program j).signals k ≡ Some i
    → signal_of W.image j k ≡ Some (signal_code i)
unfolding module_of instance_of
signal_there W ready j k i there = signal_by W ready j k i (slice_get W.program.instances j) refl there

field_kind_is : (f : FieldType) → field_kind f ≡ kind_of f.kind
field_kind_is f = ap field_kind (sym (roll-out-FieldType f)) ∙ ap (λ k. k) (fold-roll-FieldType Shaped t.Kind shape_step field_kind_step (out-FieldType f))

pub kinds_by_types : (a : List FieldType) → kinds_of a ≡ kinds (map kind_of (types_in a))
kinds_by_types [] = refl
kinds_by_types (f ∷ fs) = ap (λ k. t.AndKind k (kinds_of fs)) (field_kind_is f) ∙ ap (λ ks. t.AndKind (kind_of f.kind) ks) (kinds_by_types fs)

-- fields of the same types have the same kinds, and as many
pub kinds_same : (a b : List FieldType) → types_in a ≡ types_in b → kinds_of a ≡ kinds_of b
kinds_same a b e = kinds_by_types a ∙ ap (λ l. kinds (map kind_of l)) e ∙ sym (kinds_by_types b)

pub kinds_count : (fields : List FieldType) → count_in (kinds_of fields) ≡ length fields
unfolding count_in
kinds_count [] = refl
kinds_count (f ∷ fs) = let e = kinds_count fs in omega (arith, e)

-- The link of a used item.

used_more : (items : List Item) (n : ℕ) (ns : List ℕ) (i : Item) → slice_get items n ≡ Some i → items_used items (n ∷ ns) ≡ i ∷ items_used items ns
unfolding items_used
used_more items n ns i e = rw e refl

used_long : (items : List Item) (used : List ℕ) → All (λ n. n < length items) used → length (items_used items used) ≡ length used
unfolding items_used
used_long items [] all = refl
used_long items (n ∷ ns) all = ⊎_elim
    (λ x. ap length (used_more items n ns x.0 x.2) ∙ ap suc (used_long items ns (λ k d l. all (suc k) d (omega (arith, l)))))
    (λ x. let l = all 0 0 (omega arith) in let g = x.0 in absurd (omega (arith, l, g)))
    (slice_get_cases items n).1

contains_tail : (m n : ℕ) (ns : List ℕ) → Contains (m ∷ ns) n → (m ≡ n → ⊥) → Contains ns n
contains_tail m n ns c never = by c.0 c.1 c.2
  where
    by : (k : ℕ) → k < length (m ∷ ns) → get_or (m ∷ ns) k n ≡ n → Contains ns n
    by zero l e = absurd (never e)
    by (suc k) l e = (k, omega (arith, l), e)

used_by : (b : Bool) (items : List Item) (m n : ℕ) (ns : List ℕ) (i x : Item) → nat_eq m n ≡ b → slice_get items m ≡ Some x → slice_get items n ≡ Some i
    → Contains (m ∷ ns) n → (Contains ns n → slice_get (items_used items ns) (rank n ns) ≡ Some i)
    → slice_get (x ∷ items_used items ns) (if b then 0 else suc (rank n ns)) ≡ Some i
used_by true items m n ns i x e is there c h = sym is ∙ ap (λ k. slice_get items k) (eqb-true m n e) ∙ there
used_by false items m n ns i x e is there c h = h (contains_tail m n ns c (λ same. false≢true (sym e ∙ eq-eqb m n same)))

used_at : (items : List Item) (used : List ℕ) (n : ℕ) (i : Item) → All (λ n. n < length items) used → Contains used n → slice_get items n ≡ Some i
    → slice_get (items_used items used) (rank n used) ≡ Some i
used_at items [] n i all c there = absurd (let l = c.1 in omega (arith, l))
used_at items (m ∷ ns) n i all c there = ⊎_elim
    (λ x. ap (λ l. slice_get l (rank n (m ∷ ns))) (used_more items m ns x.0 x.2)
    ∙ used_by (nat_eq m n) items m n ns i x.0 refl x.2 there c (λ d. used_at items ns n i (λ k e l. all (suc k) e (omega (arith, l))) d there))
    (λ x. let l = all 0 0 (omega arith) in let g = x.0 in absurd (omega (arith, l, g)))
    (slice_get_cases items m).1

left_at : (xs ys : List Item) (k : ℕ) (i : Item) → slice_get xs k ≡ Some i → slice_get (xs ++ ys) k ≡ Some i
left_at [] ys k i e = absurd (none-some i e)
left_at (x ∷ xs) ys zero i e = e
left_at (x ∷ xs) ys (suc k) i e = left_at xs ys k i e

right_at : (xs ys : List Item) (k : ℕ) → slice_get (xs ++ ys) (length xs + k) ≡ slice_get ys k
right_at [] ys k = ap (λ j. slice_get ys j) (omega arith)
right_at (x ∷ xs) ys k = let e : suc (length xs) + k ≡ suc (length xs + k) = omega arith in ap (λ j. slice_get (x ∷ (xs ++ ys)) j) e ∙ right_at xs ys k

imports_tail : (m : Import) (ms : List Import) → All ImportIn (m ∷ ms) → All ImportIn ms
imports_tail m ms all k d l = all (suc k) d (omega (arith, l))

pub link_there : (imports : List Import) (k n : ℕ) (i : Item) → All ImportIn imports → imported imports k n ≡ Some i → IsUsed imports k n
    → slice_get (links_of imports) (link_number imports k n) ≡ Some i
unfolding imported item_in IsUsed UsedIn links_of ImportIn
link_there [] k n i all is used = absurd (none-some i is)
link_there (m ∷ ms) zero n i all is used =
    let in_order = all 0 m (omega arith) in
    left_at (items_used m.face.items m.used) (links_of ms) (rank n m.used) i (used_at m.face.items m.used n i in_order.2 used is)
link_there (m ∷ ms) (suc k) n i all is used =
    let in_order = all 0 m (omega arith) in
    let long = used_long m.face.items m.used in_order.2 in
    ap (λ l. slice_get (links_of (m ∷ ms)) (l + link_number ms k n)) (sym long)
    ∙ right_at (items_used m.face.items m.used) (links_of ms) (link_number ms k n)
    ∙ link_there ms k n i (imports_tail m ms all) is used

-- the import of an item
pub import_by : (o : Option Import) (n : ℕ) (i : Item) → item_in o n ≡ Some i → (m : Import) × (o ≡ Some m)
unfolding item_in
import_by None n i e = absurd (none-some i e)
import_by (Some m) n i e = (m, refl)

-- What gives back values of these kinds: a SIGNAL.
pub record GivesBack (W : World) (signal : Signal) (gives : Kinds) : Type 0 where
  pub instance : ℕ
  pub number : ℕ
  pub is : signal ≡ SignalOf instance number
  pub given : Item
  pub there : slice_get (module_of W.program instance).signals number ≡ Some given
  pub kind : given.kind ≡ item.Signal
  pub kinds : kinds_of given.gives ≡ gives

-- A link of a signal or error.
pub record SignalLinked (W : World) (j k n : ℕ) (i : Item) : Type 0 where
  pub link : link_of W.image j (link_number (module_of W.program j).imports k n) ≡ Some (link_code i)
  pub bound : Link
  pub is_bound : bound_to W.image j (link_number (module_of W.program j).imports k n) ≡ Some bound
  pub signal : signal_bound (kind_code i.kind) bound ≡ Some (id_of (linked_signal W.program j k n))
  pub has : SignalHas W (linked_signal W.program j k n) (kinds_of i.takes) (kinds_of i.gives)
  pub resumes : i.kind ≡ item.Signal → GivesBack W (linked_signal W.program j k n) (kinds_of i.gives)

pub record SignalBound (W : World) (i : Item) (signal : Signal) (link : Option Link) : Type 0 where
  pub bound : Link
  pub is_bound : link ≡ Some bound
  pub signal_is : signal_bound (kind_code i.kind) bound ≡ Some (id_of signal)
  pub has : SignalHas W signal (kinds_of i.takes) (kinds_of i.gives)
  pub resumes : i.kind ≡ item.Signal → GivesBack W signal (kinds_of i.gives)

not_procedure : (i : Item) → IsSignal i → i.kind ≡ item.Procedure → ⊥
unfolding IsSignal
not_procedure i s e = ⊎_elim (λ (x : i.kind ≡ item.Signal). let y : item.Signal ≡ item.Procedure = sym x ∙ e in let z : ⊥ = cc in z)
    (λ (x : i.kind ≡ item.Error). let y : item.Error ≡ item.Procedure = sym x ∙ e in let z : ⊥ = cc in z) s

own_bound : (k : ItemKind) → (k ≡ item.Signal) ⊎ (k ≡ item.Error) → (a b : ℕ) → signal_bound (kind_code k) (To a b) ≡ Some (id.Own a b)
unfolding signal_bound
own_bound k s a b = ⊎_elim (λ (x : k ≡ item.Signal). ap (λ y. signal_bound (kind_code y) (To a b)) x)
    (λ (x : k ≡ item.Error). ap (λ y. signal_bound (kind_code y) (To a b)) x) s

given_signal : (m : t.Module) (k : ItemKind) (n : ℕ) (i : Item) → (k ≡ item.Signal) ⊎ (k ≡ item.Error) → IsGiven m k n i
    → (slice_get m.signals n ≡ Some i) × (i.kind ≡ k)
unfolding IsGiven
given_signal m item.Procedure n i s g = absurd
    (⊎_elim (λ (x : item.Procedure ≡ item.Signal). let z : ⊥ = cc in z) (λ (x : item.Procedure ≡ item.Error). let z : ⊥ = cc in z) s)
given_signal m item.Signal n i s g = g
given_signal m item.Error n i s g = g

bound_by : (W : World) (import : Import) (i : Item) → IsSignal i → (target : Target) (link : Option Link) → StandsFor W.program target i
    → BoundTo W.image import i target link
    → SignalBound W i (signal_in target) link
unfolding StandsFor signal_in IsSignal id_of module_of instance_of or_else signal_bound
bound_by W import i s (ToProcedure a b) link stands bound = absurd (not_procedure i s stands.0)
bound_by W import i s (ToHost h) link stands bound = absurd (not_procedure i s stands.0)
bound_by W import i s (ToSignal (SignalOf a b)) link stands bound =
    let x = stands.1 in
    let given = given_signal x.instance.code i.kind b x.given s x.is_given in
    let there : slice_get (or_else no_instance (slice_get W.program.instances a)).code.signals b ≡ Some x.given =
    ap (λ o. slice_get (or_else no_instance o).code.signals b) x.is_there ∙ given.0 in
    record {
      bound = To a b;
      is_bound = bound;
      signal_is = own_bound i.kind s a b;
      has = (x.given, there, kinds_same x.given.takes i.takes x.takes, kinds_same x.given.gives i.gives x.gives);
      resumes = λ e. record {
        instance = a;
        number = b;
        is = refl;
        given = x.given;
        there = there;
        kind = given.1 ∙ e;
        kinds = kinds_same x.given.gives i.gives x.gives;
      };
    }
bound_by W import i s (ToSignal NoInput) link stands bound =
    record {
      bound = Wanted bound.0;
      is_bound = bound.1;
      signal_is = ap (λ k. signal_bound (kind_code k) (Wanted bound.0)) stands.0;
      has = (kinds_same i.takes [] stands.1, kinds_same i.gives [] stands.2);
      resumes = λ e. absurd (let y : item.Error ≡ item.Signal = sym stands.0 ∙ e in let z : ⊥ = cc in z);
    }
bound_by W import i s (ToSignal BoundsFault) link stands bound = absurd stands
bound_by W import i s (ToSignal ZeroDivisor) link stands bound = absurd stands
bound_by W import i s (ToSignal Unnamed) link stands bound = absurd stands

linked_by : (W : World) (j : ℕ) (m : source.Instance) → InstanceThere W j m → (k n : ℕ) (i : Item) → imported m.code.imports k n ≡ Some i
    → IsUsed m.code.imports k n
    → IsSignal i → (import : Import) → slice_get m.code.imports k ≡ Some import → SignalLinked W j k n i
unfolding linked_signal link_of
linked_by W j m x k n i is used s import there =
    let number = link_number m.code.imports k n in
    let b = bound_by W import i s (m.links k n) (bound_to W.image j number) (x.lawful.links k n i is used) (x.stands.links k n import i there is used) in
    let same : link_number (module_of W.program j).imports k n ≡ number = ap (λ (y : t.Module). link_number y.imports k n) x.module_is in
    let signals : signal_in (m.links k n) ≡ linked_signal W.program j k n = ap (λ (links : ℕ → ℕ → Target). signal_in (links k n)) (sym x.links_are) in
    record {
      link = ap (λ o. option_and_then (λ (c : ModuleCode). slice_get c.links (link_number (module_of W.program j).imports k n)) o) x.is_code
          ∙ ap (λ l. slice_get l (link_number (module_of W.program j).imports k n)) x.stands.code.each_link
          ∙ slice_get-map link_code (links_of m.code.imports) (link_number (module_of W.program j).imports k n)
          ∙ ap (λ number. option_map link_code (slice_get (links_of m.code.imports) number)) same
          ∙ ap (λ o. option_map link_code o) (link_there m.code.imports k n i x.lawful.sound.imports is used);
      bound = b.bound;
      is_bound = ap (λ number. bound_to W.image j number) same ∙ b.is_bound;
      signal = b.signal_is ∙ ap (λ (y : Signal). Some (id_of y)) signals;
      has = subst (λ y. SignalHas W y (kinds_of i.takes) (kinds_of i.gives)) signals b.has;
      resumes = λ e. subst (λ y. GivesBack W y (kinds_of i.gives)) signals (b.resumes e);
    }

pub signal_linked : (W : World) → Ready W → (j : ℕ) (m : source.Instance) → slice_get W.program.instances j ≡ Some m → (k n : ℕ) (i : Item)
    → imported (module_of W.program j).imports k n ≡ Some i → IsUsed (module_of W.program j).imports k n → IsSignal i → SignalLinked W j k n i
unfolding imported
signal_linked W ready j m there k n i is used s =
    let x = instance_there W ready j m there in
    let is' = subst (λ (y : t.Module). imported y.imports k n ≡ Some i) x.module_is is in
    let used' = subst (λ (y : t.Module). IsUsed y.imports k n) x.module_is used in
    let import = import_by (slice_get m.code.imports k) n i is' in
    linked_by W j m x k n i is' used' s import.0 import.1

-- what a signal takes and gives is said once
pub has_same : (W : World) (signal : Signal) (one two gives other : Kinds) → SignalHas W signal one gives → SignalHas W signal two other
    → (one ≡ two) × (gives ≡ other)
has_same W (SignalOf a b) one two gives other x y =
    let same = same_Some x.0 y.0 (sym x.1 ∙ y.1) in
    (sym x.2 ∙ ap (λ (i : Item). kinds_of i.takes) same ∙ y.2, sym x.3 ∙ ap (λ (i : Item). kinds_of i.gives) same ∙ y.3)
has_same W BoundsFault one two gives other x y = (x.0 ∙ sym y.0, x.1 ∙ sym y.1)
has_same W ZeroDivisor one two gives other x y = (x.0 ∙ sym y.0, x.1 ∙ sym y.1)
has_same W NoInput one two gives other x y = (x.0 ∙ sym y.0, x.1 ∙ sym y.1)
has_same W Unnamed one two gives other x y = (x.0 ∙ sym y.0, x.1 ∙ sym y.1)
