-- The machine values of a `Handle`. Assumes `Logic`.
use Rattle.std.proofs.Common.{◌≡◌, ℕ, List, [], ◌∷◌, ◌++◌, Bool, true, false, Option, Some, None, ◌&&◌, refl}
use Rattle.std.proofs.Common.{subst, Global}
use seplogic.Ra.Ura.{Ura}
use lib.Dec.{T, lit<}
use mir.Syntax.{impl, tnil, dnil, ty_ptr}
use mir.Raw.{raw as bare}
use mir.Val.{Val, vbool, vstruct, vcons, vnil, of_list, has_ty}
use base.Logic.{never, fst∗}
use types.Logic.{Logic, sem}
use types.Kit.{Item, Goal, Seq, Step, step, ‵, ◌$◌, move, drop, fsplit, fjoin, fpick, fpack, feq_i, feq_l}
use denote.RattleType.{RattleType, Valss}
use denote.Builtin.{RawPtr, bool}
use denote.Memory.{lone}
use denote.RawPtr.{Ptr, block_ptr, null_ptr, ptr_val, in_a_block}
use denote.Steps.{nothing}
use denote.Param.{layout}
use denote.Struct.Struct.{within}
use denote.Struct.Owning.{shape}
use Rattle.std.proofs.alloc.Calls.{Al, handle_tells}
use Rattle.std.proofs.cell.Inside.{Good}
use Rattle.std.specs.Box.Ownership.{box_owns}
use Rattle.std.specs.contracts.alloc.Global as heap
use Rattle.std.proofs.alloc.Global.TheLaws as heap_laws
use Rattle.std.specs.contracts.impls.GlobalAllocator.TheImpl.{ghosts}
use Rattle.detio_c.specs.Owned.{slot_owns}
use Rattle.detio_c.specs.contracts.session.Session as held
use Rattle.detio_c.specs.contracts.handle.Handle as handle

abbrev pub R : RattleType
R = held.the_row

abbrev pub Z : RattleType
Z = heap.the_row

abbrev pub Hd : RattleType
Hd = handle.the_row

abbrev pub al : Al
al = record { row = Z; laws = heap_laws.the_row_laws; g = ghosts; d = impl [] tnil dnil; drops = impl [] tnil dnil }

abbrev pub word : Ptr → Bool → Val → Val
word p l h = vstruct (vcons (ptr_val p) (vcons (vbool l) (vcons h vnil)))

pub both_tt : (x y : Bool) → T x → T y → T (x && (y && true))
both_tt true true s t = tt
both_tt true false s t = absurd t
both_tt false y s t = absurd s

pub ptr_good : (p : Ptr) → Good ty_ptr (ptr_val p)
ptr_good (block_ptr b o) = (tt, tt)
ptr_good null_ptr = (tt, record { fits = lit< tt })

pub word_good : (p : Ptr) (l : Bool) (h : Val) → Good (layout Z) h → Good (layout Hd) (word p l h)
word_good p l h fits = let g = ptr_good p in
    (both_tt (has_ty ty_ptr (ptr_val p)) (has_ty (layout Z) h) g.0 fits.0, (g.1, (tt, (fits.1, tt))))

module _ {M : Type 1} {𝓤 : Ura M} {𝓛 : Logic 𝓤} {K : Type 0} {Γ : List (Item 𝓤)} {G : Goal 𝓤 𝓛.H} where
  pub handle_in : K → (p : Ptr) (l : Bool) (h : Val) (a : Global) (x : Option R.Denot)
      → Step K 𝓛 (‵ (Hd.own_val (record { at = p; live = l; alloc = a; value = x }) (word p l h ∷ [])) ∷ Γ) G
      (‵ (slot_owns R l a p x) ∷ ‵ (Z.own_val a (h ∷ [])) ∷ Γ) G
  handle_in t p l h a x = step (λ s. let v : Val = word p l h in
      nothing t $ move t (2 ∷ 0 ∷ []) $ fjoin t $ feq_i t (List Val) (vbool l ∷ []) (vbool l ∷ []) refl $ fjoin t $
      feq_i t (List Val) (ptr_val p ∷ []) (ptr_val p ∷ []) refl $ fjoin t $
      feq_i t (List Val) (v ∷ []) (v ∷ []) refl $ fjoin t $
      fpack t (Valss (RawPtr ∷ bool ∷ Z ∷ []))
      (within (shape handle.the_type) (p, (l, (heap.the_field.into a, tt))) (v ∷ []))
      (ptr_val p ∷ [], (vbool l ∷ [], (h ∷ [], tt))) $ fjoin t $ s)

  -- the two cases of what a handle owns
  pub handle_out : K → (d : Hd.Denot) (vs : List Val)
      → ((b o : ℕ) (x : R.Denot) (h : Val) → d.value ≡ Some x → vs ≡ word (block_ptr b o) true h ∷ []
      → Good (layout Z) h
      → Seq K 𝓛 (‵ (box_owns (ghosts.dealloc_token d.alloc) R (block_ptr b o) x) ∷ ‵ (Z.own_val d.alloc (h ∷ [])) ∷ Γ)
      G)
      → ((h : Val) → d.value ≡ None → vs ≡ word d.at false h ∷ [] → Good (layout Z) h
      → Seq K 𝓛 (‵ (Z.own_val d.alloc (h ∷ [])) ∷ Γ) G)
      → Seq K 𝓛 (‵ (Hd.own_val d vs) ∷ Γ) G
  handle_out t d vs kS kN =
      fsplit t $ fpick t (λ vss. fsplit t $ feq_l t
      (λ ev. fsplit t $ feq_l t (λ ep. fsplit t $ feq_l t
      (λ eb. fsplit t $ handle_tells al t d.alloc vss.1.1.0
      (λ h ea fits. move t (1 ∷ []) $ drop t $ move t (1 ∷ []) $
      let laid : vs ≡ word d.at d.live h ∷ [] =
      subst (λ (ws : List Val). vs ≡ vstruct (of_list (ptr_val d.at ∷ (vbool d.live ∷ (ws ++ [])))) ∷ []) ea
      (subst (λ (us : List Val). vs ≡ vstruct (of_list (ptr_val d.at ∷ (us ++ (vss.1.1.0 ++ [])))) ∷ []) eb
      (subst (λ (ps : List Val). vs ≡ vstruct (of_list (ps ++ (vss.1.0 ++ (vss.1.1.0 ++ [])))) ∷ []) ep ev)) in
      by_value d.value refl h laid fits)))))
    where
      by_value : (v : Option R.Denot) → d.value ≡ v → (h : Val) → vs ≡ word d.at d.live h ∷ [] → Good (layout Z) h
          → Seq K 𝓛 (‵ (slot_owns R d.live d.alloc d.at v) ∷ ‵ (Z.own_val d.alloc (h ∷ [])) ∷ Γ) G
      by_value (Some x) e h laid fits = fsplit t $ feq_l t (λ is_live.
          in_a_block t d.at (λ p. box_owns (ghosts.dealloc_token d.alloc) R p x)
          (fst∗ 𝓤 (never 𝓤) (sem 𝓛 (ghosts.dealloc_token d.alloc (bare (lone R.mir)) null_ptr))) (λ b o at.
          kS b o x h e (subst (λ (p : Ptr). vs ≡ word p true h ∷ []) at
          (subst (λ (l : Bool). vs ≡ word d.at l h ∷ []) is_live laid)) fits))
      by_value None e h laid fits = feq_l t
          (λ is_not. kN h e (subst (λ (l : Bool). vs ≡ word d.at l h ∷ []) is_not laid) fits)
