-- One image more is put behind those before it.
use Rattle.std.proofs.Common.{◌≡◌, ℕ, zero, suc, ◌+◌, ◌<◌, All, List, [], ◌∷◌, ◌++◌, length, map, flat_map, take, get_or, Option, Some, None, slice_get, refl, sym, ap, subst, ◌∙◌, append-nil, append_assoc, length-append, arith}
use Rattle.std.proofs.lemmas.Grind.{flat_map-append}
use Rattle.std.proofs.lemmas.List.{take_more}
use Rattle.std.proofs.lemmas.Option.{none-some, same_Some, slice_get_within, slice_get-get_or}
use Rattle.interface_records.specs.declared.wanted.Wanted.{Wanted as Entry}
use Rattle.object_files.specs.declared.image.Image.{Image}
use Rattle.object_files.specs.declared.image.Link.{Link}
use Rattle.object_files.specs.declared.image.Link.TheVariants.{Wanted, To}
use Rattle.config_rules.proofs.Members.{map_get, mapped_length}
use Rattle.load_checks.specs.Links.{links_from, wanted_links, links_of_wanted}
use Rattle.loader_rules.specs.Loaded.{instance_in, offer_in, started_in, replaced, link_in}
use Rattle.loader_rules.specs.Parts.{Part, part, parts_behind, parts}
use Rattle.loader_rules.specs.Wanted.{still_wanted}
use Rattle.loader_rules.proofs.Parting.{flat_parts}
use Rattle.image_loader.specs.declared.joining.Joining.{Joining}
use Rattle.image_loader.specs.declared.standing.Standing.{Standing}
use Rattle.image_loader.specs.Joining.{IsPutBehind, ArePut}
use Rattle.image_loader.specs.Standing.{at_first, behind, behind_all, instance_by, offer_by, started_by, or_given, link_by, Fits, FitsBehind}

-- ---- which part stands at a place

pub part_at : (before images : List Image) (k : ℕ) (i : Image) → slice_get images k ≡ Some i → slice_get (parts_behind before images) k ≡ Some (part (before ++ take k images) i)
unfolding parts_behind
part_at before [] k i e = absurd (none-some i e)
part_at before (x ∷ xs) zero i e = λ j. Some (part (sym (append-nil before) j) (same_Some x i e j))
part_at before (x ∷ xs) (suc k) i e = part_at (before ++ x ∷ []) xs k i e ∙ ap (λ b. Some (part b i)) (append_assoc before (x ∷ []) (take k xs))

pub many_parts : (before images : List Image) → length (parts_behind before images) ≡ length images
unfolding parts_behind
many_parts before [] = refl
many_parts before (i ∷ is) = ap suc (many_parts (before ++ i ∷ []) is)

-- what stands there, whatever stands for places that there are not
pub there : {A : Type 0} (xs : List A) (k : ℕ) (d x : A) → slice_get xs k ≡ Some x → get_or xs k d ≡ x
there xs k d x e = same_Some (get_or xs k d) x (sym (slice_get-get_or xs k d (slice_get_within xs k x e)) ∙ e)

pub got : {A : Type 0} (xs : List A) (k : ℕ) (x : A) → k < length xs → x ≡ get_or xs k x → slice_get xs k ≡ Some x
got xs k x less is = slice_get-get_or xs k x less ∙ ap Some (sym is)

-- ---- the link that is given for a wanted item is the one in its place

abbrev link_or : Part → (wanted : List Entry) → ℕ → Option Entry → Link
link_or p wanted n None = Wanted n
link_or p wanted n (Some e) = link_in p wanted (Wanted n)

given_link : (p : Part) (wanted : List Entry) (m : ℕ) (es : List Entry) (k n : ℕ) → m + k ≡ n → or_given (Wanted n) (slice_get (links_from p wanted m es) k) ≡ link_or p wanted n (slice_get es k)
unfolding links_from
given_link p wanted m [] k n e = refl
given_link p wanted m (x ∷ es) zero n e = let same : m ≡ n = omega (arith, e) in ap (λ l. link_in p wanted (Wanted l)) same
given_link p wanted m (x ∷ es) (suc k) n e = given_link p wanted (suc m) es k n (omega (arith, e))

same_link : (p : Part) (wanted : List Entry) (l : Link) → link_by (behind_all p.before) (wanted_links wanted p) l ≡ link_in p wanted l
unfolding link_in replaced
same_link p wanted (Wanted n) = given_link p wanted 0 p.image.wanted n n (omega arith) ∙ by (slice_get p.image.wanted n) refl
  where
    by : (o : Option Entry) → slice_get p.image.wanted n ≡ o → link_or p wanted n o ≡ replaced p wanted (Wanted n) o
    by None e = refl
    by (Some x) e = ap (replaced p wanted (Wanted n)) e
same_link p wanted (To j n) = refl

-- ---- none, and one more

pub none_put : (wanted : List Entry) (j : Joining) → j.standing ≡ at_first → j.instances ≡ [] → j.links ≡ [] → j.offered ≡ [] → j.control ≡ [] → ArePut wanted [] j
unfolding parts_behind
none_put wanted j s a b c d = record { standing = s; instances = a; links = b; offered = c; control = d }

behind_more : (xs : List Image) (i : Image) → behind (behind_all xs) i ≡ behind_all (xs ++ i ∷ [])
behind_more xs i = λ j. record {
  number = sym (length-append xs (i ∷ [])) j;
  modules = sym (long (λ (x : Image). x.modules)) j;
  instances = sym (long (λ (x : Image). x.instances)) j;
}
  where
    long : {A : Type 0} (h : Image → List A) → length (flat_map h (xs ++ i ∷ [])) ≡ length (flat_map h xs) + length (h i)
    long h = ap length (flat_map-append h xs (i ∷ []) ∙ ap (λ l. flat_map h xs ++ l) (append-nil (h i))) ∙ length-append (flat_map h xs) (h i)

module _ (xs : List Image) (i : Image) where
  more_parts : {A : Type 0} (f : Part → List A) (old new : List A) (here : List A) → old ≡ flat_map f (parts xs) → new ≡ old ++ here → here ≡ f (part xs i)
      → new ≡ flat_map f (parts (xs ++ i ∷ []))
  unfolding parts_behind
  more_parts f old new here was is same =
      is ∙ (λ j. was j ++ same j) ∙ sym (flat_parts f xs (i ∷ []) ∙ ap (λ l. flat_map f (parts xs) ++ l) (append-nil (f (part xs i))))

  pub one_more_put : (wanted : List Entry) (given : List Link) (old new : Joining) → ArePut wanted xs old → given ≡ wanted_links wanted (part xs i) → IsPutBehind i given old new
      → ArePut wanted (xs ++ i ∷ []) new
  one_more_put wanted given old new P g B =
      let s : old.standing ≡ behind_all xs = P.standing in
      record {
        standing = B.standing ∙ ap (λ (t : Standing). behind t i) s ∙ behind_more xs i;
        instances = more_parts (λ (p : Part). map (instance_in p) p.image.instances) old.instances new.instances _ P.instances B.instances
            (ap (λ (t : Standing). map (instance_by t) i.instances) s);
        links = more_parts (λ (p : Part). map (map (link_in p wanted)) p.image.links) old.links new.links _ P.links B.links
            ((λ j. map (map (link_by (s j) (g j))) i.links) ∙ (λ j. map (map (λ l. same_link (part xs i) wanted l j)) i.links));
        offered = more_parts (λ (p : Part). map (offer_in p) p.image.offered) old.offered new.offered _ P.offered B.offered
            (ap (λ (t : Standing). map (offer_by t) i.offered) s);
        control = more_parts (λ (p : Part). map (started_in p) p.image.control) old.control new.control _ P.control B.control
            (ap (λ (t : Standing). map (started_by t) i.control) s);
      }

-- ---- the turns of the loop over images

module _ (images : List Image) (k : ℕ) (i : Image) (less : k < length images) (is : i ≡ get_or images k i) where
  its_part : slice_get (parts images) k ≡ Some (part (take k images) i)
  its_part = part_at [] images k i (got images k i less is)

  pub fits_there : (s : Standing) → s ≡ behind_all (take k images) → All FitsBehind (parts images) → Fits s i
  fits_there s at all =
      let p = part (take k images) i in
      let many = many_parts [] images in
      let fits : FitsBehind (get_or (parts images) k p) = all k p (omega (arith, less, many)) in
      subst (λ (t : Standing). Fits t i) (sym at) (subst FitsBehind (there (parts images) k p p its_part) fits)

  given_there : (links : List (List Link)) (given : List Link) → links ≡ links_of_wanted images → given ≡ get_or links k given
      → given ≡ wanted_links (still_wanted images) (part (take k images) i)
  unfolding links_of_wanted
  given_there links given are its =
      its ∙ there links k given (wanted_links (still_wanted images) (part (take k images) i))
      (ap (λ ls. slice_get ls k) are ∙ map_get (wanted_links (still_wanted images)) (parts images) k (part (take k images) i) its_part)

  pub links_there : (links : List (List Link)) → links ≡ links_of_wanted images → k < length links
  unfolding links_of_wanted
  links_there links are =
      let many : length links ≡ length images = ap length are ∙ (mapped_length (wanted_links (still_wanted images)) (parts images) ∙ many_parts [] images) in
      omega (arith, less, many)

  pub put_there : (links : List (List Link)) (its given : List Link) (old new : Joining) → links ≡ links_of_wanted images → its ≡ get_or links k its → given ≡ its
      → ArePut (still_wanted images) (take k images) old → IsPutBehind i given old new → ArePut (still_wanted images) (take (k + 1) images) new
  put_there links its given old new are there_is same P B =
      let more : take k images ++ i ∷ [] ≡ take (k + 1) images = ap (λ y. take k images ++ y ∷ []) is ∙ sym (take_more images k i less) in
      subst (λ xs. ArePut (still_wanted images) xs new) more
      (one_more_put (take k images) i (still_wanted images) given old new P (same ∙ given_there links its are there_is) B)
