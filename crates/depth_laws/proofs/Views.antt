-- What the machine finds in images that differ in depths alone is the same, but for the depths of a procedure's code.
use Rattle.std.proofs.Common.{◌≡◌, ℕ, zero, suc, List, [], ◌∷◌, map, Option, Some, None, refl, sym, ◌∙◌, ap}
use Rattle.std.specs.Prelude.{option_and_then, option_map, slice_get, unwrap_or, nat_eq, if◌then◌else◌, flat_map}
use Rattle.std.proofs.lemmas.Option.{slice_get-map}
use Rattle.code_forms.specs.Same.{bare_entry, bare_procedure, bare, IsSameCode}
use Rattle.code_forms.specs.declared.module_code.CodeEntry.{CodeEntry}
use Rattle.code_forms.specs.declared.module_code.CodeLink.{CodeLink}
use Rattle.code_forms.specs.declared.module_code.CodeProcedure.{CodeProcedure}
use Rattle.code_forms.specs.declared.module_code.CodeSignal.{CodeSignal}
use Rattle.code_forms.specs.declared.module_code.ModuleCode.{ModuleCode}
use Rattle.code_forms.specs.declared.module_code.Phrase.{Phrase}
use Rattle.interface_records.specs.declared.wanted.Wanted.{Wanted as WantedEntry}
use Rattle.object_files.specs.declared.image.Image.{Image}
use Rattle.object_files.specs.declared.image.Instance.{Instance}
use Rattle.object_files.specs.declared.image.Link.{Link}
use Rattle.object_files.specs.declared.object.Object.{Object}
use Rattle.object_rules.specs.Exact.{AreSameObjects, IsSameImage}
use Rattle.machine_rules.specs.State.{Activation}
use Rattle.machine_rules.specs.LookUps.{module_number, code_in, code_of, procedure_of, called, signal_of, literal_of, text_of, link_of, bound_to, signals_bound, links_in, links_of, host_named, host_of, instruction_at, procedure_under, instruction_under, phrases_in, phrases_under, arm_under}

-- ---- options

map_twice : {A B C : Type 0} (f : A → B) (g : B → C) (o : Option A) → option_map g (option_map f o) ≡ option_map (λ x. g (f x)) o
map_twice f g None = refl
map_twice f g (Some x) = refl

then_viewed : {A B C : Type 0} (v : A → B) (g : B → Option C) (o : Option A) → option_and_then (λ x. g (v x)) o ≡ option_and_then g (option_map v o)
then_viewed v g None = refl
then_viewed v g (Some x) = refl

-- what is found by views that are equal is equal
pub by_views : {A B C : Type 0} (v : A → B) (g : B → Option C) (o r : Option A) → option_map v o ≡ option_map v r
    → option_and_then (λ x. g (v x)) o ≡ option_and_then (λ x. g (v x)) r
by_views v g o r e = then_viewed v g o ∙ ap (option_and_then g) e ∙ sym (then_viewed v g r)

-- ---- code without its depths

pub record View : Type 0 where
  pub global_words : ℕ
  pub signals : List CodeSignal
  pub strings : List (List ℕ)
  pub links : List CodeLink
  pub procedures : List CodeProcedure

abbrev pub view : ModuleCode → View
view m = record { global_words = m.global_words; signals = m.signals; strings = m.strings; links = m.links; procedures = bare m.procedures }

same_view : (x y : ModuleCode) → IsSameCode x y → view x ≡ view y
same_view x y s = λ i. record {
  global_words = s.global_words i;
  signals = s.signals i;
  strings = s.strings i;
  links = s.links i;
  procedures = s.procedures i;
}

abbrev view_of : Object → View
view_of o = view o.code

views_alike : (xs ys : List Object) → AreSameObjects xs ys → map view_of xs ≡ map view_of ys
unfolding AreSameObjects
views_alike [] [] s = refl
views_alike [] (y ∷ ys) s = absurd s
views_alike (x ∷ xs) [] s = absurd s
views_alike (x ∷ xs) (y ∷ ys) s = λ i. same_view x.code y.code s.0.code i ∷ views_alike xs ys s.1 i

pub fetched : (code : List CodeEntry) (offset : ℕ) → instruction_at (map bare_entry code) offset ≡ instruction_at code offset
unfolding instruction_at
fetched [] offset = refl
fetched (e ∷ code) offset = ap (λ t. if nat_eq e.at offset then Some e.instruction else t) (fetched code offset)

fetched_in : (offset : ℕ) (o : Option CodeProcedure)
    → option_and_then (λ (p : CodeProcedure). instruction_at (map bare_entry p.code) offset) o ≡ option_and_then (λ (p : CodeProcedure). instruction_at p.code offset) o
fetched_in offset None = refl
fetched_in offset (Some p) = fetched p.code offset

phrases_bare : (o : Option CodeProcedure) → phrases_in (option_map bare_procedure o) ≡ phrases_in o
unfolding phrases_in
phrases_bare None = refl
phrases_bare (Some p) = refl

links_of_view : Option View → List CodeLink
links_of_view None = []
links_of_view (Some v) = v.links

links_viewed : (o : Option ModuleCode) → links_of_view (option_map view o) ≡ links_in o
unfolding links_in links_of_view
links_viewed None = refl
links_viewed (Some m) = refl

procedure_viewed : (p : ℕ) (o : Option ModuleCode)
    → option_map bare_procedure (option_and_then (λ (m : ModuleCode). slice_get m.procedures p) o) ≡ option_and_then (λ (v : View). slice_get v.procedures p) (option_map view o)
procedure_viewed p None = refl
procedure_viewed p (Some m) = sym (slice_get-map bare_procedure m.procedures p)

module _ (a b : Image) (same : IsSameImage a b) where
  code_in_view : (image : Image) (n : ℕ) → option_map view (code_in image n) ≡ slice_get (map view_of image.modules) n
  unfolding code_in
  code_in_view image n =
      map_twice (λ (o : Object). o.code) view (slice_get image.modules n) ∙ sym (slice_get-map view_of image.modules n)

  codes_alike : (n : ℕ) → option_map view (code_in a n) ≡ option_map view (code_in b n)
  codes_alike n = code_in_view a n ∙ ap (λ l. slice_get l n) (views_alike a.modules b.modules same.modules) ∙ sym (code_in_view b n)

  pub number_alike : (j : ℕ) → module_number a j ≡ module_number b j
  unfolding module_number
  number_alike j = λ i. option_map (λ (x : Instance). x.module) (slice_get (same.instances i) j)

  code_at : (o : Option ℕ) → option_map view (option_and_then (code_in a) o) ≡ option_map view (option_and_then (code_in b) o)
  code_at None = refl
  code_at (Some n) = codes_alike n

  pub code_alike : (j : ℕ) → option_map view (code_of a j) ≡ option_map view (code_of b j)
  unfolding code_of
  code_alike j = code_at (module_number a j) ∙ ap (λ o. option_map view (option_and_then (code_in b) o)) (number_alike j)

  pub signal_alike : (j k : ℕ) → signal_of a j k ≡ signal_of b j k
  unfolding signal_of
  signal_alike j k = by_views view (λ v. slice_get v.signals k) (code_of a j) (code_of b j) (code_alike j)

  literal_alike : (n k : ℕ) → literal_of a n k ≡ literal_of b n k
  unfolding literal_of
  literal_alike n k = by_views view (λ v. slice_get v.strings k) (code_in a n) (code_in b n) (codes_alike n)

  pub text_alike : (n k : ℕ) → text_of a n k ≡ text_of b n k
  unfolding text_of
  text_alike zero k = refl
  text_alike (suc n) zero = refl
  text_alike (suc n) (suc k) = λ i. unwrap_or (literal_alike n k i) []

  pub link_alike : (j k : ℕ) → link_of a j k ≡ link_of b j k
  unfolding link_of
  link_alike j k = by_views view (λ v. slice_get v.links k) (code_of a j) (code_of b j) (code_alike j)

  pub bound_alike : (j k : ℕ) → bound_to a j k ≡ bound_to b j k
  unfolding bound_to
  bound_alike j k = λ i. option_and_then (λ (table : List Link). slice_get table k) (slice_get (same.links i) j)

  links_in_alike : (j : ℕ) → links_in (code_of a j) ≡ links_in (code_of b j)
  links_in_alike j = sym (links_viewed (code_of a j)) ∙ ap links_of_view (code_alike j) ∙ links_viewed (code_of b j)

  pub links_alike : (j : ℕ) → links_of a j ≡ links_of b j
  unfolding links_of
  links_alike j = λ i. record { instance = j; signals = signals_bound (links_in_alike j i) (unwrap_or (slice_get (same.links i) j) []) }

  pub host_alike : (n : ℕ) → host_of a n ≡ host_of b n
  unfolding host_of
  host_alike n = λ i. option_and_then (λ (w : WantedEntry). host_named w.item.name) (slice_get (same.wanted i) n)

  -- procedures, depths aside
  pub procedure_alike : (j p : ℕ) → option_map bare_procedure (procedure_of a j p) ≡ option_map bare_procedure (procedure_of b j p)
  unfolding procedure_of
  procedure_alike j p =
      procedure_viewed p (code_of a j) ∙ ap (option_and_then (λ (v : View). slice_get v.procedures p)) (code_alike j) ∙ sym (procedure_viewed p (code_of b j))

  pub called_alike : (j p : ℕ) → option_map bare_procedure (called a j p) ≡ option_map bare_procedure (called b j p)
  unfolding called
  called_alike j zero = refl
  called_alike j (suc p) = procedure_alike j (suc p)

  pub under_alike : {X : Type 0} (x : Activation X) → option_map bare_procedure (procedure_under a x) ≡ option_map bare_procedure (procedure_under b x)
  unfolding procedure_under
  under_alike x = procedure_alike x.instance x.procedure

  pub instruction_alike : {X : Type 0} (x : Activation X) → instruction_under a x ≡ instruction_under b x
  unfolding instruction_under
  instruction_alike x =
      sym (fetched_in x.offset (procedure_under a x))
      ∙ by_views bare_procedure (λ p. instruction_at p.code x.offset) (procedure_under a x) (procedure_under b x) (under_alike x)
      ∙ fetched_in x.offset (procedure_under b x)

  pub phrases_alike : {X : Type 0} (x : Activation X) → phrases_under a x ≡ phrases_under b x
  unfolding phrases_under
  phrases_alike x = sym (phrases_bare (procedure_under a x)) ∙ ap phrases_in (under_alike x) ∙ phrases_bare (procedure_under b x)

  pub arm_alike : {X : Type 0} (x : Activation X) (n : ℕ) → arm_under a x n ≡ arm_under b x n
  unfolding arm_under
  arm_alike x n = λ i. slice_get (flat_map (λ (p : Phrase). p.arms) (phrases_alike x i)) n
