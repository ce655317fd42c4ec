-- What a history tells after one happening more.
use Rattle.std.proofs.Common.{◌≡◌, ℕ, ◌+◌, ◌<◌, ◌≤◌, List, [], ◌∷◌, ◌++◌, sym, refl, ap, ◌∙◌, subst, inl, inr, ⊎_elim, arith}
use Rattle.std.proofs.lemmas.List.{append_assoc, append-nil}
use Rattle.std.proofs.lemmas.Bool.{cases_lt}
use Rattle.part.specs.Events.{Happening, unprotect_taken, page_erased}
use Rattle.part.specs.Laws.{Among, NoUnprotect, ErasedSinceUnprotect}

among_left : (x : Happening) (xs ys : List Happening) → Among x xs → Among x (xs ++ ys)
among_left x [] ys a = absurd a
among_left x (z ∷ xs) ys (inl e) = inl e
among_left x (z ∷ xs) ys (inr a) = inr (among_left x xs ys a)

among_end : (x : Happening) (xs : List Happening) → Among x (xs ++ x ∷ [])
among_end x [] = inl refl
among_end x (z ∷ xs) = inr (among_end x xs)

no_unprotect_more : (k : ℕ) (xs : List Happening) → NoUnprotect xs → NoUnprotect (xs ++ page_erased k ∷ [])
no_unprotect_more k [] n = tt
no_unprotect_more k (unprotect_taken ∷ xs) n = absurd n
no_unprotect_more k (page_erased j ∷ xs) n = no_unprotect_more k xs n

-- an unprotect frame has just been taken up
pub taken_now : (h : List Happening) → ErasedSinceUnprotect 0 (h ++ unprotect_taken ∷ [])
taken_now h = record { before = h; since = []; taken = refl; last = tt; each = λ k l. absurd (omega arith) }

-- one page more has been erased
pub erased_next : (n : ℕ) (h : List Happening) → ErasedSinceUnprotect n h → ErasedSinceUnprotect (n + 1) (h ++ page_erased n ∷ [])
erased_next n h s = record {
  before = s.before;
  since = s.since ++ page_erased n ∷ [];
  taken = ap (λ x. x ++ page_erased n ∷ []) s.taken ∙ append_assoc s.before (unprotect_taken ∷ s.since) (page_erased n ∷ []);
  last = no_unprotect_more n s.since s.last;
  each = λ k l.
      ⊎_elim
      (λ (below : k < n). among_left (page_erased k) s.since (page_erased n ∷ []) (s.each k below))
      (λ (above : n ≤ k).
      let e : n ≡ k = omega arith in
      subst (λ (j : ℕ). Among (page_erased j) (s.since ++ page_erased n ∷ [])) e (among_end (page_erased n) s.since))
      (cases_lt k n);
}

-- fewer pages are asked for
pub fewer : (n m : ℕ) (h : List Happening) → m ≤ n → ErasedSinceUnprotect n h → ErasedSinceUnprotect m h
fewer n m h l s = record { before = s.before; since = s.since; taken = s.taken; last = s.last; each = λ k b. s.each k (omega arith) }

-- nothing more happened
pub unchanged : (n : ℕ) (h : List Happening) → ErasedSinceUnprotect n h → ErasedSinceUnprotect n (h ++ [])
unchanged n h s = subst (ErasedSinceUnprotect n) (sym (append-nil h)) s
