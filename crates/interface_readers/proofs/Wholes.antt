-- Whole interfaces: what is read is the one that the bytes hold, and the fault the first.
use Rattle.std.proofs.Common.{◌≡◌, ℕ, List, ◌++◌, Result, Ok, Err, refl, sym, ap, subst, ◌∙◌}
use Rattle.std.specs.Prelude.{◌≢◌, IfErr, IfOk, codes}
use Rattle.file_forms.specs.declared.stopped.Stopped.{Stopped}
use Rattle.file_forms.proofs.FileLaws.{one_file, one_first_fault, file_or_fault}
use Rattle.mesa_base.specs.declared.file_fault.FileFault.{FileFault}
use Rattle.mesa_base.specs.declared.file_fault.FileFault.TheVariants.{Memory}
use Rattle.mesa_types.specs.declared.faces.Face.{Face}
use Rattle.interface_records.specs.declared.interface.Interface.{Interface}
use Rattle.face_rules.specs.FaceForms.{item_names, face}
use Rattle.face_rules.specs.InterfaceForms.{constants, constant_names, named_types, interface, IsInterfaceFile, IsNoInterfaceFile}
use Rattle.face_rules.proofs.InterfaceLaws.{interface_law}

same_parts : (i s : Interface) (f : Face) → s.face ≡ f → i.face ≡ s.face → i.constants ≡ s.constants → i ≡ record { face = f; constants = s.constants; types = i.types }
same_parts i s f same kept equal = ap (λ (g : Face). record i { face = g }) (kept ∙ same) ∙ ap (λ cs. record { face = f; constants = cs; types = i.types }) equal

pub interface_read : (version : ℕ) (bytes behind_face behind_constants rest : List ℕ) (f : Face) (s i : Interface)
    → (face version).read bytes ≡ Ok (f, behind_face)
    → (constants version (item_names f.items)).read behind_face ≡ Ok (s.constants, behind_constants)
    → s.face ≡ f
    → (named_types version (item_names s.face.items ++ constant_names s.constants)).read behind_constants ≡ Ok (i.types, rest)
    → i.face ≡ s.face → i.constants ≡ s.constants → (interface version).read bytes ≡ Ok (i, rest)
unfolding interface
interface_read version bytes behind_face behind_constants rest f s i first second same third kept equal =
    let third_so : (named_types version (item_names f.items ++ constant_names s.constants)).read behind_constants ≡ Ok (i.types, rest) =
    subst (λ (g : Face). (named_types version (item_names g.items ++ constant_names s.constants)).read behind_constants ≡ Ok (i.types, rest)) same third in
    rw (first, second, third_so) (ap (λ (j : Interface). Ok (j, rest)) (sym (same_parts i s f same kept equal)))

pub interface_cut : (version : ℕ) (bytes behind_face behind_constants : List ℕ) (f : Face) (s : Interface) (why : Stopped)
    → (face version).read bytes ≡ Ok (f, behind_face)
    → (constants version (item_names f.items)).read behind_face ≡ Ok (s.constants, behind_constants)
    → s.face ≡ f
    → (named_types version (item_names s.face.items ++ constant_names s.constants)).read behind_constants ≡ Err why
    → (interface version).read bytes ≡ Err why
unfolding interface
interface_cut version bytes behind_face behind_constants f s why first second same third =
    let third_so : (named_types version (item_names f.items ++ constant_names s.constants)).read behind_constants ≡ Err why =
    subst (λ (g : Face). (named_types version (item_names g.items ++ constant_names s.constants)).read behind_constants ≡ Err why) same third in
    rw (first, second, third_so) refl

-- ---- one interface, or one fault

pub only_one : (bytes : List ℕ) (result : Result Interface FileFault)
    → IfOk result (λ i. (version : ℕ) × IsInterfaceFile version i bytes) → IfErr result (λ e. e ≢ Memory → IsNoInterfaceFile bytes e)
    → (version : ℕ) (i : Interface) → IsInterfaceFile version i bytes → result ≢ Err Memory → result ≡ Ok i
only_one bytes (Ok j) found fault version i holds other = ap (λ (k : Interface). Ok k) (one_file (codes "MIF") interface interface_law found.0 version j i bytes found.1 holds).1
only_one bytes (Err e) found fault version i holds other =
    absurd (file_or_fault (codes "MIF") interface interface_law refl version i bytes e holds (fault (λ none. other (ap (λ (k : FileFault). Err k) none))))

pub first_one : (bytes : List ℕ) (result : Result Interface FileFault)
    → IfOk result (λ i. (version : ℕ) × IsInterfaceFile version i bytes) → IfErr result (λ e. e ≢ Memory → IsNoInterfaceFile bytes e)
    → (e : FileFault) → IsNoInterfaceFile bytes e → result ≢ Err Memory → result ≡ Err e
first_one bytes (Ok j) found fault e holds other = absurd (file_or_fault (codes "MIF") interface interface_law refl found.0 j bytes e found.1 holds)
first_one bytes (Err d) found fault e holds other =
    ap (λ (k : FileFault). Err k) (one_first_fault (codes "MIF") interface interface_law refl bytes d e (fault (λ none. other (ap (λ (k : FileFault). Err k) none))) holds)
