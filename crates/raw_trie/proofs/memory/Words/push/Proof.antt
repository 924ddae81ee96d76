-- `push` writes a word where there is room for the next one.
use Rattle.std.proofs.Common.{◌≡◌, ℕ, ◌+◌, ◌*◌, ◌^◌, ◌<◌, List, [], ◌∷◌, ◌++◌, length, refl, sym, ap, ◌∙◌, arith, w32, w64}
use Rattle.std.proofs.raw_atomic.Walks.{proved}
use Rattle.std.proofs.alloc.Shapes.{after}
use base.Fraction.{full_share}
use base.Logic.{id⊢}
use base.Fml.{ftrue, froom, flft}
use mir.Syntax.{named, ty_int}
use mir.Val.{Val, vunit}
use contract.Monad.{fact}
use contract.Running.{tables}
use types.Kit.{‵, raw, ◌⊛◌, at_ret, ◌$◌, ◌∵◌, !, qed, move, keep, use1, use2, split, join, fsplit, fsplit3, fjoin, feq_i, rewrite, suffices, frame, group, done}
use types.Part.{whole, sub, look_in}
use types.Run.{enter, of_opd, lit, unit_lit, bin, load, init, stop, fld, assigns_last, first, blocks, exec, returns}
use types.ByLocal.{alloc_all, pass_all, free_all, look_at, get, through, sets, env}
use denote.Builtin.{u32, usize}
use denote.Exit.{yes}
use denote.Laws.{shows}
use denote.Memory.{cell_at}
use denote.Plain.{uint_vals, uint_Tells}
use denote.RattleType.{owns}
use denote.RawPtr.{Ptr, in_a_block}
use denote.Ref.{mut_vals, mut_Tells}
use denote.Signature.{plain, types_at}
use denote.Steps.{nothing, opens, closes, peeks, heard}
use denote.Triple.Walked.{Stays, walk_of, says, stay_dropped, stay_ref, Goes-dropped, Goes-ref, ends_at}
use Rattle.raw_trie.specs.Memory.{words_from, words_owned}
use Rattle.raw_trie.specs.contracts.memory.Words.{the_row as R}
use Rattle.raw_trie.specs.contracts.memory.Words.push as f
use Rattle.raw_trie.proofs.Places.{beside_next, next_out, next_in}
use Rattle.raw_trie.proofs.memory.Words.TheLaws.{lowers}
use Rattle.raw_trie.proofs.memory.Words.push.Statement.{statement}
use Rattle.raw_trie.proofs.memory.Words.push.Code as code

abbrev stayed : Stays f.ended.signature.params f.ended.kept
stayed = (
  stay_ref (0 ∷ []) tt (plain (λ _. R)),
  (stay_dropped (plain (λ _. usize)) yes, (stay_dropped (plain (λ _. u32)) yes, tt)),
)

pub push_spec : {M : Type 1} → statement M
push_spec 𝓤 𝓛 𝓜 𝓡 wired =
    let c = f.clauses 𝓛 𝓜.mem 𝓡.returns in
    let W = walk_of 𝓛 f.ended stayed c in
    let 𝓣 = tables 𝓤 𝓛.H 𝓜 𝓡 𝓡.env in
    proved 𝓛 f.ended stayed c 𝓜 𝓡 (
      Goes-ref 𝓛 1 0 tt (plain (λ _. R)),
      (
        Goes-dropped 𝓛 1 (plain (λ _. usize)) yes (λ κs x w. refl),
        (Goes-dropped 𝓛 1 (plain (λ _. u32)) yes (λ κs x w. refl), tt),
      ),
    )
    f.Key.name code.function (code.unfolded 𝓤 𝓛.H 𝓜 𝓡 wired)
    (λ κs. (mut_vals, (uint_vals w64, (uint_vals w32, tt))))
    (λ κs. (mut_Tells (named 0) κs.0 R, (uint_Tells w64, (uint_Tells w32, tt))))
    (λ κs qs bounds a none are.
    let rb = a.0.ref_ptr.0 in
    let ro = a.0.ref_ptr.1 in
    let h = a.0.now in
    let index : ℕ = a.1.0 in
    let word : ℕ = a.1.1.0 in
    let y : W.Ghost =
    ((κs, qs, bounds, a, (mut_vals a.0, (uint_vals w64 index, (uint_vals w32 word, tt)))), none) in
    let Asked : Type 0 = (index ≡ length h.words) × (index < h.room) × (index < 2 ^ 40) in
    let new : R.Denot = record { at = h.at; words = h.words ++ word ∷ []; room = h.room } in
    qed 𝓛 (((‵ (flft κs.0 qs.0) ⊛ ‵ ftrue)
    ⊛ ‵ (owns (types_at f.ended.signature.params κs) a y.0.4)) ∷ raw (fact 𝓤 Asked) ∷ []) ∵
    move ! (1 ∷ []) $ heard ! Asked (λ asked.
    let far : index * 4 < 2 ^ 64 = omega arith in
    split ! $ split ! $ move ! (2 ∷ []) $ fsplit ! $ keep ! (0 ∷ 2 ∷ []) $
    enter ! _ _ _ _ _ $ alloc_all !
    (λ l. pass_all ! refl (
      (tt, tt),
      ((tt, record { fits = are.1.0.1 }), ((tt, record { fits = are.1.1.0.1 }), tt)),
    ) $
    fsplit3 ! $ move ! (1 ∷ 2 ∷ 3 ∷ []) $ opens ! tt R rb ro (λ us.
    move ! (1 ∷ []) $ peeks ! R _ (shows 𝓛 R) h us (λ is. fsplit ! $ move ! (1 ∷ []) $
    in_a_block ! h.at (λ p. words_owned p h.room h.words) (id⊢ 𝓤 _) (λ b o e.
    use1 𝓛 (‵ (froom (ty_int w32) b (index * 4 + o)) ⊛ ‵ (beside_next b o h.room h.words))
    (next_out 𝓛 b o h.room index h.words asked.0 asked.1) $ split ! $
    let spelled =
    lowers.val_is h us is ∙ ap (λ (p : Ptr). lowers.lowered (record h { at = p }) ∷ []) e in
    let Cell = λ (ws : List Val). ‵ (cell_at full_share R.mir ws rb ro) in
    rewrite ! 3 Cell spelled refl $
    -- [the room; the other words; what the fields own; the struct's cell; the open borrow, in three
    -- entries]
    first ! $ blocks ! $
    sets ! (of_opd ! (load ! (through ! refl (fld ! refl (stop !)))
    (look_in ! 3 (sub ! 0 refl (whole !))))) refl (tt, tt) $
    sets ! (bin ! (get ! refl) (lit ! tt) (record { fits = far })) refl
    (tt, record { fits = far }) $
    sets ! (bin ! (get ! refl) (get ! refl) tt) refl (tt, tt) $
    assigns_last ! (of_opd ! (get ! refl)) (through ! refl (stop !))
    (init ! 0 refl (tt, record { fits = are.1.1.0.1 })) $
    exec ! 𝓣.C 𝓣.Λ (env code.Mir.locals l) (after 1 (code.function).body) (at_ret _ (W.post y)) $
    sets ! (of_opd ! (unit_lit !)) refl (tt, tt) $
    use2 𝓛 (‵ (words_from b o h.room new.words)) (next_in 𝓛 b o h.room index h.words word asked.0) $
    rewrite ! 0 (λ (p : Ptr). ‵ (words_owned p h.room new.words)) (sym e) refl $
    rewrite ! 2 Cell (sym spelled) refl $
    move ! (1 ∷ []) $ fjoin ! $ move ! (1 ∷ []) $ closes ! tt R new us rb ro $
    -- [two parts of self; the token; self's first part]
    returns ! (look_at ! 0 refl) $ free_all ! refl $ move ! (3 ∷ []) $
    suffices ! _ (ends_at 𝓛 f.ended stayed c y vunit tt (new, (tt, (tt, tt)))
    (tt, (tt, (tt, tt)))) $ says ! (refl, refl, refl) $
    group ! 3 $ nothing ! $ nothing ! $ join ! $ nothing ! $ join ! $ move ! (1 ∷ 0 ∷ []) $ join ! $
    nothing ! $ move ! (2 ∷ 0 ∷ []) $ join ! $ frame ! $ frame ! $
    feq_i ! _ (vunit ∷ []) _ refl $ done !))))))
