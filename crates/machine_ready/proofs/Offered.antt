-- Items that the host has.
use Rattle.std.proofs.Common.{◌≡◌, ℕ, ◌+◌, ◌<◌, ◌≤◌, ⊎_elim, List, length, take, get_or, Some, refl, sym, ap, subst, ◌∙◌, arith}
use Rattle.std.specs.Prelude.{slice_get, All, Any}
use Rattle.std.proofs.lemmas.Bool.{cases_lt}
use Rattle.std.proofs.lemmas.List.{get_or-take, get_or_read, length-take}
use Rattle.std.proofs.lemmas.Option.{same_Some, slice_get_within, get_or_from_slice_get}
use Rattle.mesa_types.specs.declared.faces.Item.{Item}
use Rattle.interface_records.specs.declared.wanted.Wanted.{Wanted}
use Rattle.interface_records.specs.declared.wanted.WantedItem.{WantedItem}
use Rattle.machine_ready.specs.declared.fault.ReadyFault.{ReadyFault}
use Rattle.machine_ready.specs.declared.fault.ReadyFault.TheVariants.{Unresolved, Memory}
use Rattle.machine_ready.specs.Hosts.{SameItem, IsHostItem, named, IsFault}
use Rattle.machine_ready.specs.Laws.{OneUnresolved, NoneUnresolved}

-- one item more is not offered; one is; none is

pub none_more : (item : Item) (items : List Item) (n : ℕ) (x : Item) → n < length items → x ≡ get_or items n x → (SameItem item x → ⊥)
    → ((k : ℕ) (d : Item) → k < n → SameItem item (get_or items k d) → ⊥) → (k : ℕ) (d : Item) → k < n + 1 → SameItem item (get_or items k d) → ⊥
none_more item items n x less is other none k d l same = ⊎_elim
    (λ (m : k < n). none k d m same)
    (λ (m : n ≤ k).
    let own : k ≡ n = omega arith in
    let here : get_or items k d ≡ x = ap (λ i. get_or items i d) own ∙ sym (get_or_read items n x less is d) in
    other (subst (SameItem item) here same))
    (cases_lt k n)

pub one_offered : (item : Item) (items : List Item) (n : ℕ) (x : Item) → n < length items → x ≡ get_or items n x → SameItem item x → Any (SameItem item) items
one_offered item items n x less is same = (n, x, less, sym is, same)

pub none_offered : (item : Item) (items : List Item) (n : ℕ) → length items ≤ n → ((k : ℕ) (d : Item) → k < n → SameItem item (get_or items k d) → ⊥)
    → Any (SameItem item) items → ⊥
none_offered item items n l none (k, x, less, is, same) = none k x (omega arith) (subst (SameItem item) (sym is) same)

-- the fault of a wanted item that is none of the host's, where those before it are
pub fault_of : (wanteds : List Wanted) (fault : ReadyFault) (n : ℕ) (w : Wanted) → slice_get wanteds n ≡ Some w → (IsHostItem w → ⊥) → All IsHostItem (take n wanteds)
    → ((item : WantedItem) → fault ≡ Unresolved item → item ≡ named w) → IsFault wanteds fault
fault_of wanteds (Unresolved item) n w is none before names = record { number = n; wanted = w; is = is; none = none; before = before; is_named = names item refl }
fault_of wanteds Memory n w is none before names = tt

host_at : (wanteds : List Wanted) (n : ℕ) (w : Wanted) → slice_get wanteds n ≡ Some w → All IsHostItem wanteds → IsHostItem w
host_at wanteds n w is h = subst IsHostItem (get_or_from_slice_get wanteds n w w is) (h n w (slice_get_within wanteds n w is))

host_before : (wanteds : List Wanted) (n k : ℕ) (w : Wanted) → slice_get wanteds k ≡ Some w → k < n → All IsHostItem (take n wanteds) → IsHostItem w
host_before wanteds n k w is less h =
    let within = slice_get_within wanteds k w is in
    let same : get_or (take n wanteds) k w ≡ get_or wanteds k w = get_or-take n wanteds k w less in
    subst IsHostItem (same ∙ get_or_from_slice_get wanteds k w w is) (h k w (let l = length-take n wanteds in grind (arith, l)))

pub one_unresolved : OneUnresolved
one_unresolved wanteds a b x y = ⊎_elim
    (λ (l : x.number < y.number). absurd (x.none (host_before wanteds y.number x.number x.wanted x.is l y.before)))
    (λ (l : y.number ≤ x.number). ⊎_elim
    (λ (m : y.number < x.number). absurd (y.none (host_before wanteds x.number y.number y.wanted y.is m x.before)))
    (λ (m : x.number ≤ y.number).
    let same : x.number ≡ y.number = omega arith in
    x.is_named ∙ ap named (same_Some x.wanted y.wanted (sym x.is ∙ ap (slice_get wanteds) same ∙ y.is)) ∙ sym y.is_named)
    (cases_lt y.number x.number))
    (cases_lt x.number y.number)

pub none_unresolved : NoneUnresolved
none_unresolved wanteds a h x = x.none (host_at wanteds x.number x.wanted x.is h)
