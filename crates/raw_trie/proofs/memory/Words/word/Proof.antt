-- `word` hands on the `&` to one of the words that a `&` to them holds.
use Rattle.std.proofs.Common.{ℕ, ◌+◌, ◌*◌, ◌^◌, ◌<◌, List, [], ◌∷◌, length, get_or, refl, arith, w64}
use Rattle.std.proofs.raw_atomic.Walks.{proved}
use Rattle.std.proofs.alloc.Shapes.{after}
use base.Logic.{id⊢, never}
use base.Fml.{ftrue, flft}
use mir.Syntax.{named}
use mir.Val.{Val, vptr}
use contract.Monad.{fact}
use contract.Running.{tables}
use types.Kit.{‵, raw, ◌⊛◌, at_ret, ◌$◌, ◌∵◌, !, qed, move, keep, drop, use1, split, join, fsplit, fjoin, feq_i, suffices, frame, done}
use types.Run.{enter, of_opd, lit, bin, load, look, addr, stop, fld, first, blocks, exec, returns}
use types.ByLocal.{alloc_all, pass_all, free_all, look_at, get, through, sets, sets_last, env}
use denote.Builtin.{RefOf, u32, usize}
use denote.Exit.{yes}
use denote.Memory.{shared_of}
use denote.Opens.{hide, unhide}
use denote.Plain.{uint_vals, uint_Tells}
use denote.RattleType.{owns}
use denote.RawPtr.{in_a_block}
use denote.Ref.{shr_vals, shr_Tells}
use denote.Signature.{plain, types_at}
use denote.Steps.{nothing, heard}
use denote.Triple.Walked.{Stays, walk_of, says, stay_dropped, Goes-dropped, ends_at}
use Rattle.raw_trie.specs.Memory.{words_lent}
use Rattle.raw_trie.specs.contracts.memory.Words as R
use Rattle.raw_trie.specs.contracts.memory.Words.word as f
use Rattle.raw_trie.proofs.Places.{word_shown}
use Rattle.raw_trie.proofs.PointerField.{pointer_seen, pointer_left}
use Rattle.raw_trie.proofs.memory.Words.word.Statement.{statement}
use Rattle.raw_trie.proofs.memory.Words.word.Code as code

abbrev stayed : Stays f.ended.signature.params f.ended.kept
stayed = (stay_dropped _ yes, (stay_dropped (plain (λ _. usize)) yes, tt))

pub word_spec : {M : Type 1} → statement M
word_spec 𝓤 𝓛 𝓜 𝓡 wired =
    let c = f.clauses 𝓛 𝓜.mem 𝓡.returns in
    let W = walk_of 𝓛 f.ended stayed c in
    let 𝓣 = tables 𝓤 𝓛.H 𝓜 𝓡 𝓡.env in
    proved 𝓛 f.ended stayed c 𝓜 𝓡 (
      Goes-dropped 𝓛 1 (RefOf (0 ∷ []) tt (plain (λ _. R.the_row)) (λ _. tt)) yes (λ κs x w. refl),
      (Goes-dropped 𝓛 1 (plain (λ _. usize)) yes (λ κs x w. refl), tt),
    )
    f.Key.name code.function (code.unfolded 𝓤 𝓛.H 𝓜 𝓡 wired)
    (λ κs. (shr_vals, (uint_vals w64, tt)))
    (λ κs. (shr_Tells (named 0) κs.0 R.the_row, (uint_Tells w64, tt))) (λ κs qs bounds a none are.
    let κ = κs.0 in
    let rb = a.0.ref_ptr.0 in
    let ro = a.0.ref_ptr.1 in
    let h = a.0.now in
    let index : ℕ = a.1.0 in
    let y : W.Ghost = ((κs, qs, bounds, a, (shr_vals a.0, (uint_vals w64 index, tt))), none) in
    let Asked : Type 0 = (index < length h.words) × (index < 2 ^ 40) in
    let x : ℕ = get_or h.words index 0 in
    qed 𝓛 (((‵ (flft κ qs.0) ⊛ ‵ ftrue)
    ⊛ ‵ (owns (types_at f.ended.signature.params κs) a y.0.4)) ∷ raw (fact 𝓤 Asked) ∷ []) ∵
    move ! (1 ∷ []) $ heard ! Asked (λ asked.
    let far : index * 4 < 2 ^ 64 = omega arith in
    split ! $ split ! $ move ! (2 ∷ []) $ fsplit ! $ fsplit ! $ drop ! $ keep ! (0 ∷ 2 ∷ []) $
    unhide ! $ fsplit ! $ fsplit ! $ fsplit ! $ hide ! $ move ! (3 ∷ 0 ∷ 4 ∷ []) $
    in_a_block ! h.at (λ p. words_lent p h.words κ) (id⊢ 𝓤 (never 𝓤)) (λ b o e.
    let place : ℕ = index * 4 + o in
    use1 𝓛 (‵ (shared_of u32 x b place κ)) (word_shown 𝓛 b κ o index h.words asked.0) $ hide ! $
    keep ! (1 ∷ 2 ∷ 0 ∷ []) $
    -- [a `&` to the pointer; the token; a `&` to the word]
    enter ! _ _ _ _ _ $ alloc_all !
    (λ l. pass_all ! refl ((tt, tt), ((tt, record { fits = are.1.0.1 }), tt)) $
    first ! $ blocks ! $ pointer_seen ! tt h.at b o e rb (ro + 0) (λ q'.
    sets ! (of_opd ! (load ! (through ! refl (fld ! refl (stop !))) (look ! 0 refl))) refl
    (tt, tt) $
    pointer_left ! tt h.at b o e rb (ro + 0) $
    sets ! (bin ! (get ! refl) (lit ! tt) (record { fits = far })) refl
    (tt, record { fits = far }) $
    sets ! (bin ! (get ! refl) (get ! refl) tt) refl (tt, tt) $
    sets_last ! (addr ! (through ! refl (stop !))) refl (tt, tt) $
    exec ! 𝓣.C 𝓣.Λ (env code.Mir.locals l) (after 1 (code.function).body) (at_ret _ (W.post y)) $
    sets ! (of_opd ! (get ! refl)) refl (tt, tt) $
    returns ! (look_at ! 0 refl) $ free_all ! refl $ keep ! (1 ∷ 0 ∷ []) $
    feq_i ! (List Val) (vptr b place ∷ []) (vptr b place ∷ []) refl $ fjoin ! $
    move ! (1 ∷ 0 ∷ []) $
    suffices ! _ (ends_at 𝓛 f.ended stayed c y (vptr b place)
    (record { ref_ptr = (b, place); now = x }) (tt, (tt, tt)) (tt, (tt, tt))) $ says ! refl $
    nothing ! $ move ! (1 ∷ 0 ∷ []) $ join ! $ frame ! $ nothing ! $ nothing ! $ fjoin ! $
    nothing ! $ fjoin ! $ done !)))))
