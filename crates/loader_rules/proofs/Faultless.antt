-- What holds of images without a fault.
use Rattle.std.proofs.Common.{◌≡◌, ℕ, zero, suc, ◌+◌, ◌<◌, ◌≤◌, ◌⊎◌, inl, inr, Bool, true, false, not, ◌||◌, List, [], ◌∷◌, ◌++◌, length, flat_map, Some, slice_get, refl, sym, ap, subst, ◌∙◌, if◌then◌else◌, arith}
use Rattle.std.specs.List.{list_any}
use Rattle.std.specs.Prelude.{nat_lt}
use Rattle.std.proofs.lemmas.Bool.{leb-false, ltb-false}
use Rattle.std.proofs.lemmas.Option.{none-some, same_Some}
use Rattle.mesa_base.specs.declared.limits.TheConstants.{INSTANCES, CONFIGURATION_DEPTH}
use Rattle.mesa_types.specs.declared.faces.Face.{Face}
use Rattle.interface_records.specs.declared.wanted.Wanted.{Wanted as Entry}
use Rattle.object_files.specs.declared.image.Image.{Image}
use Rattle.object_files.specs.declared.image.Instance.{Instance}
use Rattle.object_rules.specs.declared.limits.TheConstants.{IMAGE_MODULES}
use Rattle.config_rules.proofs.Members.{Mem}
use Rattle.loader_rules.specs.declared.fault.LoadFault.{LoadFault}
use Rattle.loader_rules.specs.declared.fault.LoadFault.TheVariants.{FaceDiffers, TooManyInstances, TooNested}
use Rattle.loader_rules.specs.Exporters.{Offered, exporters, stamped}
use Rattle.loader_rules.specs.LoadFaults.{one_if, is_nested, nested, are_many, many, odd, item_of, faces_to, differs, item_fault, fault_among, fault_of, faults_from, bad_items, faults_in, load_faults}
use Rattle.loader_rules.specs.Parts.{Part, part, parts_behind, parts, number, modules_of, instances_of}
use Rattle.loader_rules.specs.SameFaces.{same_face}
use Rattle.loader_rules.specs.Wanted.{is_built_in}
use Rattle.loader_rules.proofs.Faces.{face_same}
use Rattle.loader_rules.proofs.Lists.{append_none, Ends, ends}
use Rattle.loader_rules.proofs.Parting.{IsPart, flat_about}

-- ---- of each image none of the lists of faults has one

pub record HasNone (p : Part) : Type 0 where
  pub none_nested : nested p ≡ []
  pub none_many : many p ≡ []
  pub none_odd : odd p ≡ []
  pub none_bad : bad_items p ≡ []

pub has_none : (images : List Image) → load_faults images ≡ [] → (p : Part) → IsPart images p → HasNone p
unfolding load_faults faults_in
has_none images h p I =
    let all = append_none (flat_map faults_in (parts p.before)) (faults_in p ++ flat_map faults_in (parts_behind (p.before ++ p.image ∷ []) I.behind)) (sym (flat_about faults_in images p I) ∙ h) in
    let its = append_none (faults_in p) (flat_map faults_in (parts_behind (p.before ++ p.image ∷ []) I.behind)) all.1 in
    let a = append_none (nested p) (many p ++ (odd p ++ bad_items p)) its.0 in
    let b = append_none (many p) (odd p ++ bad_items p) a.1 in
    let c = append_none (odd p) (bad_items p) b.1 in
    record { none_nested = a.0; none_many = b.0; none_odd = c.0; none_bad = c.1 }

none_if : (b : Bool) (fault : LoadFault) → one_if b fault ≡ [] → b ≡ false
none_if true fault e = absurd cc
none_if false fault e = refl

none_any : {A : Type 0} (test : A → Bool) (xs : List A) → list_any test xs ≡ false → (x : A) → Mem x xs → test x ≡ false
none_any test [] h x m = absurd m
none_any {A} test (y ∷ ys) h x m = by (λ g n. none_any test ys g x n) (test y) refl h m
  where
    by : (list_any test ys ≡ false → Mem x ys → test x ≡ false) → (b : Bool) → test y ≡ b → b || list_any test ys ≡ false → (y ≡ x) ⊎ Mem x ys → test x ≡ false
    by again true e g n = absurd cc
    by again false e g (inl s) = subst (λ (z : A). test z ≡ false) s e
    by again false e g (inr n) = again g n

-- ---- paths are short, and instances and modules are few

pub is_short : (p : Part) → HasNone p → (x : Instance) → Mem x p.image.instances → length x.path < 32
is_short p h x m =
    leb-false CONFIGURATION_DEPTH (length x.path) (none_any is_nested p.image.instances (none_if (list_any is_nested p.image.instances) (TooNested (number p)) h.none_nested) x m)

pub record AreFew (images : List Image) : Type 0 where
  pub instances : length (instances_of images) ≤ 1024
  pub modules : length (modules_of images) ≤ 65534

or_none : (a b : Bool) → a || b ≡ false → (a ≡ false) × (b ≡ false)
or_none true b e = absurd cc
or_none false b e = (refl, e)

few_by : (images : List Image) → are_many images ≡ false → AreFew images
few_by images h =
    let q = or_none (nat_lt INSTANCES (length (instances_of images))) (nat_lt IMAGE_MODULES (length (modules_of images))) h in
    record { instances = ltb-false INSTANCES (length (instances_of images)) q.0; modules = ltb-false IMAGE_MODULES (length (modules_of images)) q.1 }

pub are_few : (images : List Image) → load_faults images ≡ [] → AreFew images
are_few images h = by (ends images)
  where
    by : (images ≡ []) ⊎ Ends images → AreFew images
    by (inl e) = subst AreFew (sym e) (few_by [] refl)
    by (inr E) =
        let p = part E.front E.last in
        let n = has_none images h p (record { behind = []; are = E.are }) in
        subst AreFew (sym E.are) (few_by (E.front ++ E.last ∷ []) (none_if (are_many (E.front ++ E.last ∷ [])) (TooManyInstances (number p)) n.none_many))

-- ---- a wanted item has one exporter, of the face of each import that links to it

none_from : (p : Part) (n : ℕ) (es : List Entry) → faults_from p n es ≡ [] → (k : ℕ) (e : Entry) → slice_get es k ≡ Some e → fault_of p (n + k) e ≡ []
unfolding faults_from
none_from p n [] h k e is = absurd (none-some e is)
none_from p n (x ∷ es) h zero e is =
    let here = (append_none (fault_of p n x) (faults_from p (suc n) es) h).0 in
    ap (λ m. fault_of p m e) {x = n + 0} {y = n} (omega arith) ∙ (ap (fault_of p n) (sym (same_Some x e is)) ∙ here)
none_from p n (x ∷ es) h (suc k) e is =
    ap (λ m. fault_of p m e) {x = n + suc k} {y = suc n + k} (omega arith) ∙ none_from p (suc n) es (append_none (fault_of p n x) (faults_from p (suc n) es) h).1 k e is

pub record OneExporter (p : Part) (n : ℕ) (e : Entry) : Type 0 where
  pub its : Offered
  pub alone : stamped e (exporters p.before e) ≡ its ∷ []
  pub agrees : (f : Face) → Mem f (faces_to p.image n) → its.gives.face ≡ f

one_of : (p : Part) (n : ℕ) (e : Entry) (under all : List Offered) → stamped e (exporters p.before e) ≡ under → item_fault p n e under all ≡ [] → OneExporter p n e
unfolding item_fault
one_of p n e (o ∷ []) all is h = record {
  its = o;
  alone = is;
  agrees = λ f m.
      face_same o.gives.face f
      (so (same_face o.gives.face f) (none_any (λ (g : Face). not (same_face o.gives.face g)) (faces_to p.image n) (none_if (differs o.gives.face (faces_to p.image n)) (FaceDiffers (number p) (item_of e)) h) f m));
}
  where
    so : (b : Bool) → not b ≡ false → b ≡ true
    so true g = refl
    so false g = absurd cc
one_of p n e (o ∷ second ∷ os) all is h = absurd cc
one_of p n e [] (o ∷ os) is h = absurd cc
one_of p n e [] [] is h = absurd cc

pub has_one : (p : Part) → HasNone p → (n : ℕ) (e : Entry) → slice_get p.image.wanted n ≡ Some e → is_built_in e.face ≡ false → OneExporter p n e
has_one p h n e is other =
    let at : fault_of p n e ≡ [] = ap (λ m. fault_of p m e) {x = n} {y = 0 + n} (omega arith) ∙ none_from p 0 p.image.wanted h.none_bad n e is in
    let among : fault_among p n e (exporters p.before e) ≡ [] = ap (λ b. if b then [] else fault_among p n e (exporters p.before e)) (sym other) ∙ at in
    one_of p n e (stamped e (exporters p.before e)) (exporters p.before e) refl among
