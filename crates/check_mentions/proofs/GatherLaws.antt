-- What is found of mentions that are read one after the other.
use Rattle.std.proofs.Common.{◌≡◌, ℕ, true, false, List, [], ◌∷◌, ◌++◌, reverse, is_some, refl, sym, ap, subst, ◌∙◌, append_assoc}
use Rattle.std.proofs.lemmas.Bool.{cond-true, cond-false}
use Rattle.std.proofs.lemmas.List.{append-nil, reverse-append}
use Rattle.check_scopes.proofs.Laws.{has_one_more}
use Rattle.check_scopes.specs.Scopes.{Scope, has, with_name}
use Rattle.check_scopes.specs.Shows.{means}
use Rattle.check_rules.specs.Mentions.{Mention, Text, Made, texts, origins}
use Rattle.check_mentions.specs.Gathering.{Found, found, IsIndexed, Leaves}
use Rattle.check_mentions.specs.declared.gathered.Gathered.{Gathered}

abbrev both_of : List (List ℕ) → List ℕ → Found
both_of ts os = record { texts = ts; origins = os }

both : {ts us : List (List ℕ)} {os ps : List ℕ} → ts ≡ us → os ≡ ps → both_of ts os ≡ both_of us ps
both p q = λ i. both_of (p i) (q i)

-- ---- one mention

pub same_left : (g : Gathered) (all left : List Mention) → IsIndexed g → left ≡ all → Leaves g all g left
same_left g all left h e = record { indexed = h; agrees = λ ms. ap (λ xs. found g (xs ++ ms)) e }

pub text_is_there : (g : Gathered) (x : List ℕ) → IsIndexed g → has x (reverse g.texts) ≡ true → Leaves g (Text x ∷ []) g []
unfolding found texts origins
text_is_there g x h e = record {
  indexed = h;
  agrees = λ ms. both (ap (λ ts. g.texts ++ ts) (sym (cond-true (has x (reverse g.texts)) (texts (reverse g.texts) ms) (x ∷ texts (x ∷ reverse g.texts) ms) e))) refl;
}

module _ (g new : Gathered) where
  last_first : (x : List ℕ) → new.texts ≡ g.texts ++ x ∷ [] → reverse new.texts ≡ x ∷ reverse g.texts
  last_first x e = ap reverse e ∙ reverse-append g.texts (x ∷ [])

  pub text_is_new : (x : List ℕ) → IsIndexed g → has x (reverse g.texts) ≡ false → new.texts ≡ g.texts ++ x ∷ [] → new.origins ≡ g.origins
      → means new.seen ≡ with_name x tt (means g.seen) → Leaves g (Text x ∷ []) new []
  unfolding found texts origins
  text_is_new x h e longer same seen = record {
    indexed = λ y. ap (has y) (last_first x longer) ∙ has_one_more x tt (reverse g.texts) (means g.seen) h y ∙ ap (λ (s : Scope (Unit {0})). is_some (s y)) (sym seen);
    agrees = λ ms. both
        (ap (λ ts. ts ++ texts (reverse new.texts) ms) longer
        ∙ ap (λ ts. (g.texts ++ x ∷ []) ++ texts ts ms) (last_first x longer)
        ∙ append_assoc g.texts (x ∷ []) (texts (x ∷ reverse g.texts) ms)
        ∙ ap (λ ts. g.texts ++ ts) (sym (cond-false (has x (reverse g.texts)) (texts (reverse g.texts) ms) (x ∷ texts (x ∷ reverse g.texts) ms) e)))
        (ap (λ os. os ++ origins ms) same);
  }

  pub token_is_made : (n : ℕ) → IsIndexed new → new.texts ≡ g.texts → new.origins ≡ g.origins ++ n ∷ [] → Leaves g (Made n ∷ []) new []
  unfolding found texts origins
  token_is_made n h same longer = record {
    indexed = h;
    agrees = λ ms. both (ap (λ ts. ts ++ texts (reverse ts) ms) same) (ap (λ os. os ++ origins ms) longer ∙ append_assoc g.origins (n ∷ []) (origins ms));
  }

-- ---- one after the other

pub then : (a b c : Gathered) (xs ys zs : List Mention) → Leaves a xs b ys → Leaves b ys c zs → Leaves a xs c zs
then a b c xs ys zs h k = record { indexed = k.indexed; agrees = λ ms. k.agrees ms ∙ h.agrees ms }

pub with_behind : (a b : Gathered) (xs ys zs : List Mention) → Leaves a xs b ys → Leaves a (xs ++ zs) b (ys ++ zs)
with_behind a b xs ys zs h = record {
  indexed = h.indexed;
  agrees = λ ms. ap (found b) (append_assoc ys zs ms) ∙ h.agrees (zs ++ ms) ∙ ap (found a) (sym (append_assoc xs zs ms));
}

pub joined : (a b c : Gathered) (xs ys : List Mention) → Leaves a xs b [] → Leaves b ys c [] → Leaves a (xs ++ ys) c []
joined a b c xs ys h k = then a b c (xs ++ ys) ys [] (with_behind a b xs [] ys h) k

pub left_is : (a b : Gathered) (xs ys zs : List Mention) → ys ≡ zs → Leaves a xs b ys → Leaves a xs b zs
left_is a b xs ys zs e h = subst (λ l. Leaves a xs b l) e h

pub all_is : (a b : Gathered) (xs ys zs : List Mention) → xs ≡ ys → Leaves a xs b zs → Leaves a ys b zs
all_is a b xs ys zs e h = subst (λ l. Leaves a l b zs) e h

-- ---- all of them

module _ (start end : Gathered) (ms : List Mention) (h : Leaves start ms end []) where
  pub texts_whole : start.texts ≡ [] → end.texts ≡ texts [] ms
  unfolding found texts
  texts_whole e =
      sym (append-nil end.texts)
      ∙ ap (λ (f : Found). f.texts) (h.agrees [])
      ∙ ap (λ ts. ts ++ texts (reverse ts) (ms ++ [])) e
      ∙ ap (texts []) (append-nil ms)

  pub origins_whole : start.origins ≡ [] → end.origins ≡ origins ms
  unfolding found origins
  origins_whole e =
      sym (append-nil end.origins)
      ∙ ap (λ (f : Found). f.origins) (h.agrees [])
      ∙ ap (λ os. os ++ origins (ms ++ [])) e
      ∙ ap origins (append-nil ms)
