-- The code of instances, and how they read the links of labels.
use Rattle.std.proofs.Common.{◌≡◌, ℕ, zero, suc, ◌+◌, ◌<◌, ◌≤◌, ⊎_elim, List, [], ◌∷◌, ◌++◌, length, take, get_or, Option, Some, None, refl, sym, ap, subst, ◌∙◌, add-one, arith}
use Rattle.std.specs.Prelude.{slice_get, MatchOption, IsSomeAnd}
use Rattle.std.proofs.lemmas.Bool.{cases_lt}
use Rattle.std.proofs.lemmas.List.{take_all}
use Rattle.std.proofs.lemmas.Option.{MatchOption-at_some, slice_get-get_or, slice_get_past, slice_get_read}
use Rattle.code_forms.specs.declared.module_code.CodeKind.TheVariants.{Procedure}
use Rattle.code_forms.specs.declared.module_code.CodeLink.{CodeLink}
use Rattle.code_forms.specs.declared.module_code.ModuleCode.{ModuleCode}
use Rattle.object_files.specs.declared.image.Image.{Image}
use Rattle.object_files.specs.declared.image.Instance.{Instance}
use Rattle.object_files.specs.declared.image.Link.{Link}
use Rattle.object_files.specs.declared.object.Object.{Object}
use Rattle.signaller.specs.declared.search.Links.{Links}
use Rattle.signaller.specs.declared.signal_id.SignalId.{SignalId}
use Rattle.machine_rules.specs.LookUps.{module_number, code_in, code_of, link_of, bound_to, signal_bound, signals_bound, links_in, links_of}
use Rattle.machine_rules.specs.Steps.{globals_in}
use Rattle.machine_ready.specs.Order.{ImageInOrder, IsBoundAlike}

pub code_found : (image : Image) (j : ℕ) (i : Instance) (o : Object) → slice_get image.instances j ≡ Some i → slice_get image.modules i.module ≡ Some o → code_of image j ≡ Some o.code
unfolding code_of module_number code_in
code_found image j i o is there = rw (is, there) refl

-- as it is read from the two lists
pub code_read : (image : Image) (j : ℕ) (instances : List Instance) (modules : List Object) (i : Instance) (o : Object) → instances ≡ image.instances → modules ≡ image.modules
    → ImageInOrder image → j < length image.instances → o ≡ get_or modules (get_or instances j i).module o → code_of image j ≡ Some o.code
code_read image j instances modules i o same_instances same_modules order l read =
    let own = get_or instances j i in
    let there : j < length instances = (let e = ap length same_instances in omega (arith, e, l)) in
    let is = subst (λ (xs : List Instance). slice_get xs j ≡ Some own) same_instances (slice_get-get_or instances j i there) in
    let within : own.module < length modules = (let m = order.modules j i l in
    let e = ap (λ (xs : List Instance). (get_or xs j i).module) same_instances in let k = ap length same_modules in omega (arith, m, e, k)) in
    let found = subst (λ (xs : List Object). slice_get xs own.module ≡ Some o) same_modules (slice_get_read modules (length modules) own.module o refl within read) in
    code_found image j own o is found

pub words_there : (image : Image) (j : ℕ) (m : ModuleCode) → code_of image j ≡ Some m → globals_in (code_of image j) ≡ m.global_words
unfolding globals_in
words_there image j m e = rw e refl

-- one link more

bound_next : (links : List CodeLink) (table : List Link) (i : ℕ) (l : CodeLink) (b : Link) → i < length links → i < length table
    → signals_bound (take (suc i) links) table ≡ signals_bound (take i links) table ++ signal_bound (get_or links i l).kind (get_or table i b) ∷ []
unfolding signals_bound
bound_next [] table i l b less within = absurd (omega arith)
bound_next (x ∷ links) [] i l b less within = absurd (omega arith)
bound_next (x ∷ links) (y ∷ table) zero l b less within = refl
bound_next (x ∷ links) (y ∷ table) (suc i) l b less within = ap (λ s. signal_bound x.kind y ∷ s) (bound_next links table i l b (omega arith) (omega arith))

pub bound_none : (links : List CodeLink) (table : List Link) (signals : List (Option SignalId)) → signals ≡ [] → signals ≡ signals_bound (take 0 links) table
unfolding signals_bound
bound_none links table signals e = e

pub bound_more : (links : List CodeLink) (table : List Link) (i : ℕ) (l : CodeLink) (b : Link) (signals new : List (Option SignalId)) → i < length links → i < length table
    → new ≡ signals ++ signal_bound (get_or links i l).kind (get_or table i b) ∷ [] → signals ≡ signals_bound (take i links) table → new ≡ signals_bound (take (i + 1) links) table
bound_more links table i l b signals new less within grown h =
    grown ∙ ap (λ (s : List (Option SignalId)). s ++ signal_bound (get_or links i l).kind (get_or table i b) ∷ []) h
    ∙ sym (bound_next links table i l b less within) ∙ ap (λ n. signals_bound (take n links) table) (sym (add-one i))

pub bound_all : (links : List CodeLink) (table : List Link) (i : ℕ) (signals : List (Option SignalId)) → length links ≤ i
    → signals ≡ signals_bound (take i links) table → signals ≡ signals_bound links table
bound_all links table i signals l h = h ∙ ap (λ (k : List CodeLink). signals_bound k table) (take_all i links l)

-- an instance's table has each link of its module

missing : {A B : Type 0} (o : Option A) (b : Option B) (x : A) (P : A → B → Type 0) → o ≡ Some x → b ≡ None → MatchOption o (b ≡ None) (λ l. IsSomeAnd b (P l)) → ⊥
missing {A} {B} o b x P is none h = subst (λ (c : Option B). IsSomeAnd c (P x)) none (MatchOption-at_some (b ≡ None) (λ l. IsSomeAnd b (P l)) x is h)

pub table_long : (image : Image) → ImageInOrder image → (j : ℕ) (code : ModuleCode) (table : List Link) → code_of image j ≡ Some code → slice_get image.links j ≡ Some table
    → length code.links ≤ length table
unfolding link_of bound_to
table_long image o j code table is there = ⊎_elim
    (λ (l : length table < length code.links). absurd (
    let none : CodeLink = record { kind = Procedure; args = 0; results = 0 } in
    let found : link_of image j (length table) ≡ Some (get_or code.links (length table) none) = rw is (slice_get-get_or code.links (length table) none l) in
    let past : bound_to image j (length table) ≡ None = rw there (slice_get_past table (length table) (omega arith)) in
    missing (link_of image j (length table)) (bound_to image j (length table)) (get_or code.links (length table) none) (IsBoundAlike image) found past (o.links j (length table))))
    (λ (l : length code.links ≤ length table). l)
    (cases_lt (length table) (length code.links))

pub table_read : (image : Image) (j : ℕ) (tables : List (List Link)) (table : List Link) → tables ≡ image.links → ImageInOrder image → j < length image.instances
    → table ≡ get_or tables j table → slice_get image.links j ≡ Some table
table_read image j tables table same order l read =
    let there : j < length tables = (let t = order.tables in let e = ap length same in omega (arith, t, e, l)) in
    subst (λ (xs : List (List Link)). slice_get xs j ≡ Some table) same (slice_get_read tables (length tables) j table refl there read)

pub links_are : (image : Image) (j : ℕ) (code : ModuleCode) (table : List Link) (links : Links) → code_of image j ≡ Some code → slice_get image.links j ≡ Some table
    → links.instance ≡ j → links.signals ≡ signals_bound code.links table → links ≡ links_of image j
unfolding links_of links_in
links_are image j code table links is there own signals = rw (is, there) (grind arith)
