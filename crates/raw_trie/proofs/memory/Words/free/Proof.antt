-- `free` makes room of the words, and hands the block back.
use Rattle.std.proofs.Common.{◌≡◌, ℕ, ◌+◌, ◌*◌, ◌^◌, ◌<◌, List, [], ◌∷◌, ◌++◌, length, refl, sym, ap, ◌∙◌, arith, lit<, w32, w64}
use Rattle.std.proofs.raw_atomic.Walks.{proved_at, leaves}
use Rattle.std.proofs.raw_atomic.Calls.{fm}
use Rattle.std.proofs.alloc.Calls.{Al, seen, Goes-blank, Gives, at_gives, Gives-goes, Gives-Gives}
use Rattle.std.proofs.alloc.Shapes.{after}
use mir.Syntax.{Ty, Fn, Args, a_type, dcons, dnil, place, ty_int, ty_array}
use mir.Val.{Val, vint, vptr, vunit}
use mir.MapTy.{inst_fn}
use base.Logic.{SProp, never, id⊢}
use base.Fml.{Lft, Share, ftrue, froom, flft}
use prog.Wp.{Wp, after_seq, after_block, at_return, Env, WpFn}
use contract.BorrowLft.{◌⊑◌, ⊑_trans}
use contract.Monad.{fact}
use contract.Running.{tables}
use types.Kit.{Post as After, any_q, post, ‵, raw, ◌⊛◌, given, later, prop, settles, at_ret, ◌$◌, ◌∵◌, !, qed, by, move, drop, use1, use3, split, join, learn, rewrite, regoal, fsplit, fsplit3, fjoin, feq_i, await}
use types.Part.{whole, sub}
use types.Run.{stop, fld, lit, bin, unit_lit, of_opd, no_more, and_then, first, blocks, exec, returns, enter}
use types.ByLocal.{alloc_all, pass_all, free_all, look_at, get, get_in, sets, lands_last, env}
use denote.RattleType.{owns}
use denote.RawPtr.{Ptr, block_ptr, in_a_block}
use denote.Param.{bounded}
use denote.Signature.{types_at}
use denote.Steps.{nothing, heard}
use denote.Triple.Call.{calls_at_last}
use denote.Triple.Walked.{Stays, stay_dropped, walk_of, Goes-dropped}
use Rattle.raw_trie.specs.Memory.{block_type, words_owned}
use Rattle.raw_trie.specs.contracts.memory.Words.free.{ended, clauses}
use Rattle.raw_trie.specs.contracts.memory.Words.free.Key.{name as #self}
use Rattle.raw_trie.proofs.Places.{all_room}
use Rattle.raw_trie.proofs.Values.{words_val, words_told, lease_val, lease_told, nth_slot, size_of_block, align_of_block}
use Rattle.raw_trie.proofs.memory.Words.free.Statement.{statement}
use Rattle.raw_trie.proofs.memory.Words.free.Code as code

pub free_spec : {M : Type 1} → statement M
free_spec 𝓤 𝓛 𝓜 𝓡 wired A L g d dd met md =
    let H = 𝓛.H in let 𝓣 = tables 𝓤 H 𝓜 𝓡 𝓡.env in
    let En = ended A g d dd in
    let c = clauses A g d dd 𝓛 𝓜.mem 𝓡.returns in
    let ps = En.signature.params in
    let args : Args = bounded (a_type ∷ []) (A, tt) (dcons d (dcons dd dnil)) in
    let fn : Fn = inst_fn args code.function in
    let hs : Stays En.signature.params En.kept = (
      stay_dropped (nth_slot 0 ps) En.kept.0,
      (
        stay_dropped (nth_slot 1 ps) En.kept.1.0,
        (
          stay_dropped (nth_slot 2 ps) En.kept.1.1.0,
          (stay_dropped (nth_slot 3 ps) En.kept.1.1.1.0, tt),
        ),
      ),
    ) in
    proved_at 𝓛 En hs c 𝓜 𝓡 (
      Goes-blank 𝓛 2 (nth_slot 0 ps) En.kept.0 (λ κs x f. tt),
      (
        Goes-blank 𝓛 2 (nth_slot 1 ps) En.kept.1.0 (λ κs x f. tt),
        (
          Goes-dropped 𝓛 2 (nth_slot 2 ps) En.kept.1.1.0 (λ κs x f. refl),
          (Goes-dropped 𝓛 2 (nth_slot 3 ps) En.kept.1.1.1.0 (λ κs x f. refl), tt),
        ),
      ),
    )
    (#self args) fn (code.unfolded 𝓤 H 𝓜 𝓡 wired (A, tt) d dd) (λ z are.
    let Post : Val → SProp 𝓤 = (walk_of 𝓛 En hs c).post z in let a = z.0.3 in let vss = z.0.4 in
    let Y : Al = record { row = A; laws = L; g = g; d = d; drops = dd } in
    let κ : Lft = z.0.0.0 in
    let q : Share = z.0.1.0 in
    let x = a.0 in
    let k = a.1.0 in
    let h = a.1.1.0.now in
    let handle = a.1.1.0.ref_ptr in
    let n : ℕ = a.1.1.1.0 in
    let τ : Ty = block_type n in
    let Asked : Type 0 =
    (k.alloc ≡ h) × (k.at ≡ x.at) × (k.room ≡ x.room) × (n ≡ x.room) × (n < 2 ^ 40)
    × (length x.words < n + 1) in
    qed 𝓛 (((‵ (flft κ q) ⊛ ‵ (flft z.0.0.1.0 z.0.1.1.0) ⊛ ‵ ftrue)
    ⊛ ‵ (owns (types_at En.signature.params z.0.0) a vss)) ∷ (raw (fact 𝓤 (z.0.0.1.0 ⊑ A.lives))
    ⊛ raw (fact 𝓤 Asked)) ∷ []) ∵
    move ! (1 ∷ []) $ split ! $ heard ! (z.0.0.1.0 ⊑ A.lives) (λ le. heard ! Asked (λ asked.
    let bytes : n * 4 < 2 ^ 64 = omega arith in
    split ! $ move ! (1 ∷ []) $
    fsplit3 ! $ fsplit ! $ drop ! $
    in_a_block ! x.at (λ p. words_owned p x.room x.words) (id⊢ 𝓤 (never 𝓤)) (λ b o at.
    use1 𝓛 (‵ (froom (ty_array (ty_int w32) x.room) b o))
    (all_room 𝓛 b o x.room x.words (omega arith)) $
    rewrite ! 0 (λ (m : ℕ). ‵ (froom (ty_array (ty_int w32) m) b o)) (sym asked.3) refl $
    use1 𝓛 (‵ (froom τ b o)) (𝓛.laws.room-raw (ty_array (ty_int w32) n) b o) $
    -- [the room; the lease; the other parameters; the tokens]
    move ! (1 ∷ []) $ fsplit ! $ drop ! $
    rewrite ! 0 (λ (u : A.Denot × ℕ × Ptr). ‵ (g.dealloc_token u.0 (block_type u.1) u.2))
    (λ i. (asked.0 i, (asked.2 ∙ sym asked.3) i, (asked.1 ∙ at) i)) refl $
    move ! (2 ∷ []) $ fsplit ! $ fsplit ! $ drop ! $ move ! (1 ∷ []) $ drop ! $
    use1 𝓛 (‵ (seen Y κ handle h)) (id⊢ 𝓤 _) $
    move ! (3 ∷ []) $ split ! $ move ! (2 ∷ 0 ∷ []) $ join ! $ move ! (3 ∷ 2 ∷ []) $
    -- [the room; the right to free it; a `&` to the handle with its token; the other tokens]
    let y = at_gives Y 𝓛 𝓜.mem 𝓡.returns κ q handle h b o (n * 4) 4 τ in
    regoal ! (λ (us : List Val). prop (WpFn 𝓤 H 𝓣.C 𝓣.Λ fn us Post))
    (λ i. (words_told x.at vss.0 are.0.0 ∙ ap (λ (p : Ptr). words_val p ∷ []) at)
    i ++ (lease_told vss.1.0 are.1.0.0 i ++ (are.1.1.0.0 i ++ (are.1.1.1.0.0 i ++ [])))) refl $
    enter ! 𝓣.C 𝓣.Λ fn (words_val (block_ptr b o) ∷ lease_val ∷ vptr handle.0 handle.1 ∷ vint w64
    n ∷ []) Post $
    alloc_all ! (λ l. pass_all ! refl
    ((tt, (tt, tt)), ((tt, (tt, tt)), ((tt, tt), ((tt, record { fits = are.1.1.1.0.1 }), tt)))) $
    let Ev : Env 𝓤 𝓛.H = env fn.locals l in
    sets ! (of_opd ! (get_in ! (fld ! refl (stop !)) (sub ! 0 refl (whole !)))) refl (tt, tt) $
    first ! $ blocks ! $
    sets ! (of_opd ! (get ! refl)) refl (tt, tt) $
    sets ! (bin ! (get ! refl) (lit ! tt) (record { fits = bytes })) refl
    (tt, record { fits = bytes }) $
    use3 𝓛 (raw ((Gives Y 𝓛 𝓜.mem 𝓡.returns).pre y))
    (Gives-goes Y 𝓛 𝓜.mem 𝓡.returns κ q handle h (⊑_trans κ z.0.0.1.0 A.lives z.0.2.0 le) b o
    (n * 4) 4 τ (size_of_block n bytes) (align_of_block n) bytes (lit< tt)) $
    calls_at_last ! (fm 𝓛 𝓜 𝓡) (Gives Y 𝓛 𝓜.mem 𝓡.returns) (met.deallocate dd) y
    (and_then ! (get ! refl) (and_then ! (get ! refl)
    (and_then ! (get ! refl) (and_then ! (lit ! tt) (no_more !))))) (λ v.
    use1 𝓛 (later (given (v ≡ vunit) (‵ (flft κ q))))
    (Gives-Gives Y 𝓛 𝓜.mem 𝓡.returns κ q handle h b o (n * 4) 4 τ v) $ await ! tt $
    learn ! (λ e. join ! $
    let Then : After 𝓤 H =
    any_q (after_seq 𝓤 H (Wp 𝓤 H 𝓣.C 𝓣.Λ Ev (after 2 fn.body) (at_return 𝓤 H Ev Post))
    (at_return 𝓤 H Ev Post)) in
    regoal ! (λ (u : Val). settles Ev (place 6 []) u (any_q (after_block 𝓤 H (post 𝓤 H Then)))) e
    refl $ lands_last ! refl (tt, tt) $
    exec ! 𝓣.C 𝓣.Λ Ev (after 2 fn.body) (at_ret Ev Post) $
    sets ! (of_opd ! (unit_lit !)) refl (tt, tt) $
    returns ! (look_at ! 0 refl) $ free_all ! refl $
    feq_i ! (List Val) (vunit ∷ []) (vunit ∷ []) refl $ nothing ! $ nothing ! $ nothing ! $
    fjoin ! $ nothing ! $ fjoin ! $ nothing ! $ fjoin ! $ nothing ! $ fjoin ! $
    move ! (3 ∷ 0 ∷ 2 ∷ 1 ∷ []) $
    by ! (leaves 𝓛 En hs c z vunit tt (tt, (tt, (tt, (tt, tt)))) (tt, (tt, (tt, (tt, tt))))))))))))
