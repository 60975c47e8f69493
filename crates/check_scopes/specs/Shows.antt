-- What the tables of the code show: names with their meanings, and scopes in one another.
use Rattle.std.specs.Prelude.{ℕ, List, map, reverse}
use Rattle.std.specs.Option.{option_map}
use Rattle.std.specs.BTreeMap.{BTreeMap, get_by}
use Rattle.std.specs.Ordering.{nat_cmp}
use Rattle.std.specs.Cmp.Lexicographic.{slice_cmp}
use Rattle.std.specs.declared.vec.Vec.{Vec}
use Rattle.std.specs.declared.rc.Rc.{Rc}
use Rattle.std.specs.declared.alloc.Global.{Global}
use Rattle.check_scopes.specs.Scopes.{Scope, find, over}
use Rattle.check_scopes.specs.declared.index.Index.{Index}
use Rattle.check_scopes.specs.declared.names.Names.{Names}
use Rattle.check_scopes.specs.declared.scopes.Scopes.{Scopes}

-- what an ordered index has under a name
unfoldable pub indexed : {T : Type 0} → BTreeMap (Vec ℕ Global) T → Scope T
indexed index x = get_by (λ k. slice_cmp nat_cmp x k.items) index

unfoldable pub listed : {T : Type 0} → Index T → Scope T
listed names = indexed names.index

-- where each meaning has several owners
unfoldable pub valued : {T : Type 0} → Index (Rc T Global) → Scope T
valued names x = option_map (λ r. r.value) (listed names x)

-- in indexes over one another, the newest at the end
unfoldable pub layered : {T : Type 0} → List (Index (Rc T Global)) → Scope T
layered layers x = find x (map valued (reverse layers))

unfoldable pub means : {T : Type 0} → Names T → Scope T
means names = over (valued names.newest) (layered names.frozen.items)

unfoldable pub shows : {T : Type 0} → Scopes T → List (Scope T)
shows scopes = map means (reverse scopes.scopes.items)
