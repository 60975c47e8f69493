-- That an image is in order where each instance's links fit.
use Rattle.std.proofs.Common.{◌≡◌, ◌⊎◌, inl, inr, ℕ, zero, suc, ◌<◌, ◌≤◌, List, length, get_or, Option, Some, None, refl, ap, subst, All, arith}
use Rattle.std.specs.Prelude.{slice_get, MatchOption, IsSomeAnd}
use Rattle.std.proofs.lemmas.Bool.{cases_lt}
use Rattle.std.proofs.lemmas.Option.{slice_get_cases, slice_get_past, slice_get_read, slice_get-get_or}
use Rattle.code_forms.specs.declared.module_code.CodeKind.{CodeKind}
use Rattle.code_forms.specs.declared.module_code.CodeKind.TheVariants.{Procedure, Signal, Error}
use Rattle.code_forms.specs.declared.module_code.CodeLink.{CodeLink}
use Rattle.code_forms.specs.declared.module_code.ModuleCode.{ModuleCode}
use Rattle.object_files.specs.declared.image.Image.{Image}
use Rattle.object_files.specs.declared.image.Instance.{Instance}
use Rattle.object_files.specs.declared.image.Link.{Link}
use Rattle.object_files.specs.declared.object.Object.{Object}
use Rattle.machine_rules.specs.LookUps.{module_number, code_of, procedure_of, called, signal_of, link_of, bound_to}
use Rattle.machine_activations.specs.Links.{IsOfInstance}
use Rattle.machine_ready.specs.Order.{IsBoundAlike}
use Rattle.machine_ready.proofs.Linked.{code_found}
use Rattle.machine_trials.specs.Fitting.{IsOfCode, LinksFit, TableFits, TablesFit}

-- the code of an instance, and its table, as they are read from the lists

pub code_there : (image : Image) (j : ℕ) (instances : List Instance) (modules : List Object) (i : Instance) (o : Object) → instances ≡ image.instances → modules ≡ image.modules
    → All (λ (x : Instance). x.module < length image.modules) image.instances → j < length image.instances → o ≡ get_or modules (get_or instances j i).module o → code_of image j ≡ Some o.code
code_there image j instances modules i o same_instances same_modules within l read =
    let own = get_or instances j i in
    let there : j < length instances = (let e = ap length same_instances in omega (arith, e, l)) in
    let is : slice_get image.instances j ≡ Some own = subst (λ (xs : List Instance). slice_get xs j ≡ Some own) same_instances (slice_get-get_or instances j i there) in
    let below : own.module < length modules = (let m = within j i l in let e = ap (λ (xs : List Instance). (get_or xs j i).module) same_instances in let k = ap length same_modules in omega (arith, m, e, k)) in
    let found = subst (λ (xs : List Object). slice_get xs own.module ≡ Some o) same_modules (slice_get_read modules (length modules) own.module o refl below read) in
    code_found image j own o is found

pub table_there : (image : Image) (j : ℕ) (tables : List (List Link)) (table : List Link) → tables ≡ image.links → length image.links ≡ length image.instances → j < length image.instances
    → table ≡ get_or tables j table → slice_get image.links j ≡ Some table
table_there image j tables table same as_many l read =
    subst (λ (xs : List (List Link)). slice_get xs j ≡ Some table) same
    (slice_get_read tables (length tables) j table refl (let e = ap length same in omega (arith, as_many, e, l)) read)

-- what is of the code of an instance is of that instance
pub of_instance : (image : Image) (l : CodeLink) (kind : CodeKind) (j n : ℕ) (m : ModuleCode) → code_of image j ≡ Some m → IsOfCode l kind m n → IsOfInstance image l kind j n
unfolding called procedure_of signal_of
of_instance image l Procedure j zero m is own = let some = own.0 in absurd (omega (arith, some))
of_instance image l Procedure j (suc n) m is own = rw is own.1
of_instance image l Signal j n m is own = rw is own
of_instance image l Error j n m is own = rw is own

-- each link, whether it is there or not

abbrev Fits : Image → Option CodeLink → Option Link → Type 0
Fits image l b = MatchOption l (b ≡ None) (λ x. IsSomeAnd b (IsBoundAlike image x))

abbrev Read : {X : Type 0} → List X → ℕ → Type 0
Read {X} xs k = ((x : X) × (k < length xs) × (slice_get xs k ≡ Some x) × (get_or xs k x ≡ x)) ⊎ ((length xs ≤ k) × (slice_get xs k ≡ None))

link_read : (image : Image) (links : List CodeLink) (table : List Link) → length links ≡ length table → LinksFit image links table (length links) → (k : ℕ)
    → Read links k → Read table k → Fits image (slice_get links k) (slice_get table k)
link_read image links table same fit k (inl (l, less, l_is, at)) (inl (b, within, b_is, at')) =
    let alike = fit k l b less l_is b_is in rw (l_is, b_is) alike
link_read image links table same fit k (inl (l, less, l_is, at)) (inr (past, none)) = absurd (omega (arith, same, less, past))
link_read image links table same fit k (inr (past, none)) b = rw none (slice_get_past table k (omega (arith, same, past)))

link_fits : (image : Image) (links : List CodeLink) (table : List Link) → length links ≡ length table → LinksFit image links table (length links) → (k : ℕ)
    → Fits image (slice_get links k) (slice_get table k)
link_fits image links table same fit k = link_read image links table same fit k (slice_get_cases links k).1 (slice_get_cases table k).1

in_table : (image : Image) (j k : ℕ) → TableFits image j → Fits image (link_of image j k) (bound_to image j k)
unfolding link_of bound_to
in_table image j k t = rw (t.its_code, t.its_table) (link_fits image t.code.links t.table t.as_many t.alike k)

past_tables : (image : Image) (j k : ℕ) → length image.instances ≤ j → length image.links ≤ j → Fits image (link_of image j k) (bound_to image j k)
unfolding link_of bound_to code_of module_number
past_tables image j k past past' = rw (slice_get_past image.instances j past, slice_get_past image.links j past') refl

by_place : (image : Image) → length image.links ≡ length image.instances → TablesFit image (length image.instances) → (j k : ℕ)
    → (j < length image.instances) ⊎ (length image.instances ≤ j) → Fits image (link_of image j k) (bound_to image j k)
by_place image same fit j k (inl less) = in_table image j k (fit j less)
by_place image same fit j k (inr past) = past_tables image j k past (omega (arith, same, past))

pub links_in_order : (image : Image) → length image.links ≡ length image.instances → TablesFit image (length image.instances) → (j k : ℕ)
    → MatchOption (link_of image j k) (bound_to image j k ≡ None) (λ l. IsSomeAnd (bound_to image j k) (IsBoundAlike image l))
links_in_order image same fit j k = by_place image same fit j k (cases_lt j (length image.instances))
