-- One link more, and the links of one import more.
use Rattle.std.proofs.Common.{◌≡◌, ℕ, ◌+◌, ◌-◌, ◌<◌, ◌≤◌, List, [], ◌∷◌, ◌++◌, length, map, drop, get_or, Option, Some, None, Result, Ok, Err, refl, sym, ap, subst, ◌∙◌, append_assoc, length-append, arith}
use Rattle.std.specs.Prelude.{flat_map, slice_get}
use Rattle.std.proofs.lemmas.List.{map-append, drop_more, drop_all}
use Rattle.file_forms.proofs.Loops.{each_begins, each_goes_on, each_is_cut, each_is_done}
use Rattle.file_forms.specs.declared.stopped.Stopped.{Stopped}
use Rattle.file_forms.specs.Forms.{Form, Reading, read_each}
use Rattle.file_forms.specs.Reads.{Reads}
use Rattle.image_readers.proofs.Turns.{at_end}
use Rattle.image_readers.specs.Tables.{IsLinkedOn, needed_at, next_link, next_table}
use Rattle.interface_records.specs.declared.wanted.Wanted.{Wanted as Entry}
use Rattle.mesa_types.specs.declared.faces.Face.{Face}
use Rattle.mesa_types.specs.declared.faces.Import.{Import}
use Rattle.mesa_types.specs.declared.faces.Item.{Item}
use Rattle.mesa_types.specs.Links.{items_used}
use Rattle.object_files.specs.declared.image.Instance.{Instance}
use Rattle.object_files.specs.declared.image.Link.{Link}
use Rattle.object_readers.proofs.Linked.{used_first}
use Rattle.object_readers.specs.Rows.{items_at}
use Rattle.object_rules.specs.ImageForms.{link, link_table, needed_of, needed_by_import, needed_by, module_at}
use Rattle.object_rules.specs.Parts.{ModulePart}

module _ (modules : List ModulePart) (wanted : List Entry) (instances : List Instance) (needed : List Entry) where
  abbrev On : List Link → List Entry → List ℕ → List ℕ → Type 0
  On = IsLinkedOn modules wanted instances needed

  abbrev each : List Link → Form Link
  each = next_link modules wanted instances needed

  next_is : (all : List Link) (n : Entry) (after : List Entry) (bytes start : List ℕ) → On all (n ∷ after) bytes start
      → (each all).read bytes ≡ (link modules wanted instances (Some n)).read bytes
  next_is all n after bytes start on =
      ap (λ (o : Option Entry). (link modules wanted instances o).read bytes)
      (ap (λ (ns : List Entry). slice_get ns (length all)) on.split ∙ ap (slice_get (on.done ++ n ∷ after)) on.far ∙ at_end on.done after n)

  not_all : (all : List Link) (n : Entry) (after : List Entry) (bytes start : List ℕ) (on : On all (n ∷ after) bytes start) → length on.done < length needed
  not_all all n after bytes start on = omega (arith, ap length on.split, length-append on.done (n ∷ after))

  pub starts : (bytes : List ℕ) → On [] needed bytes bytes
  starts bytes = record { done = []; split = refl; far = refl; same = each_begins each (length needed) [] bytes refl }

  pub one_more : (all longer : List Link) (n : Entry) (after : List Entry) (l : Link) (bytes rest start : List ℕ) → On all (n ∷ after) bytes start
      → (link modules wanted instances (Some n)).read bytes ≡ Ok (l, rest) → longer ≡ all ++ l ∷ [] → On longer after rest start
  one_more all longer n after l bytes rest start on e pushed = record {
    done = on.done ++ n ∷ [];
    split = on.split ∙ sym (append_assoc on.done (n ∷ []) after);
    far = ap length pushed ∙ length-append all (l ∷ []) ∙ ap (λ k. k + 1) on.far ∙ sym (length-append on.done (n ∷ []));
    same = ap (λ k. read_each each (length needed - k) longer rest) (length-append on.done (n ∷ []))
        ∙ each_goes_on each (length needed) (length on.done) all longer l bytes rest _ (not_all all n after bytes start on) on.same (next_is all n after bytes start on ∙ e) pushed;
  }

  pub cut : (all : List Link) (n : Entry) (after : List Entry) (why : Stopped) (bytes start : List ℕ) → On all (n ∷ after) bytes start
      → (link modules wanted instances (Some n)).read bytes ≡ Err why → read_each each (length needed) [] start ≡ Err why
  cut all n after why bytes start on e =
      each_is_cut each (length needed) (length on.done) all why bytes _ (not_all all n after bytes start on) on.same (next_is all n after bytes start on ∙ e)

  pub ended : (all : List Link) (bytes start : List ℕ) → On all [] bytes start → read_each each (length needed) [] start ≡ Ok (all, bytes)
  ended all bytes start on =
      each_is_done each (length needed) (length on.done) all bytes _ (omega (arith, ap length on.split, length-append on.done [])) on.same

  -- from one used item on
  pub next_used : (f : Face) (used : List ℕ) (i d : ℕ) (o : Option Item) (all : List Link) (more : List Entry) (bytes start : List ℕ) → i < length used → o ≡ slice_get f.items (get_or used i d)
      → On all (map (needed_of f) (items_used f.items (drop i used)) ++ more) bytes start
      → On all (needed_at f o ++ (map (needed_of f) (items_used f.items (drop (i + 1) used)) ++ more)) bytes start
  next_used f used i d o all more bytes start less is on =
      subst (λ ns. On all ns bytes start)
      (ap (λ (ns : List ℕ). map (needed_of f) (items_used f.items ns) ++ more) (drop_more used i d less)
      ∙ ap (λ (is : List Item). map (needed_of f) is ++ more) (used_first f.items (get_or used i d) (drop (i + 1) used) o (sym is))
      ∙ ap (λ (es : List Entry). es ++ more) (map-append (needed_of f) (items_at o) (items_used f.items (drop (i + 1) used)))
      ∙ append_assoc (map (needed_of f) (items_at o)) (map (needed_of f) (items_used f.items (drop (i + 1) used))) more
      ∙ ap (λ (es : List Entry). es ++ (map (needed_of f) (items_used f.items (drop (i + 1) used)) ++ more)) (same o)) on
    where
      same : (p : Option Item) → map (needed_of f) (items_at p) ≡ needed_at f p
      same None = refl
      same (Some x) = refl

  -- from one import on
  pub next_import : (imports : List Import) (i : ℕ) (m : Import) (all : List Link) (bytes start : List ℕ) → i < length imports → get_or imports i m ≡ m
      → On all (flat_map needed_by_import (drop i imports)) bytes start → On all (needed_by_import m ++ flat_map needed_by_import (drop (i + 1) imports)) bytes start
  next_import imports i m all bytes start less is on =
      subst (λ ns. On all ns bytes start)
      (ap (flat_map needed_by_import) (drop_more imports i m less ∙ ap (λ (k : Import). k ∷ drop (i + 1) imports) is)) on

pub used_done : (f : Face) (used : List ℕ) (i : ℕ) (more : List Entry) → length used ≤ i → map (needed_of f) (items_used f.items (drop i used)) ++ more ≡ more
unfolding items_used
used_done f used i more h = ap (λ (ns : List ℕ). map (needed_of f) (items_used f.items ns) ++ more) (drop_all i used h)

pub imports_done : (imports : List Import) (i : ℕ) → length imports ≤ i → flat_map needed_by_import (drop i imports) ≡ []
imports_done imports i h = ap (flat_map needed_by_import) (drop_all i imports h)

-- the links of the next instance are those that its module needs
pub next_needs : (modules : List ModulePart) (wanted : List Entry) (instances : List Instance) (all : List (List Link)) (n : ℕ) (o : Option ModulePart)
    (bytes new : List ℕ) (result : Result (List Link) Stopped) → n ≡ length all → o ≡ module_at modules (slice_get instances n)
    → Reads ((link_table modules wanted instances (needed_by o)).read bytes) result new → Reads ((next_table modules wanted instances all).read bytes) result new
next_needs modules wanted instances all n o bytes new result far is =
    subst (λ (r : Reading (List Link)). Reads r result new)
    (ap (λ (p : Option ModulePart). (link_table modules wanted instances (needed_by p)).read bytes) (is ∙ ap (λ (k : ℕ). module_at modules (slice_get instances k)) far))

pub no_links : (modules : List ModulePart) (wanted : List Entry) (instances : List Instance) (all : List Link) (bytes : List ℕ) → all ≡ []
    → (link_table modules wanted instances []).read bytes ≡ Ok (all, bytes)
unfolding link_table read_each
no_links modules wanted instances all bytes none = rw none refl
