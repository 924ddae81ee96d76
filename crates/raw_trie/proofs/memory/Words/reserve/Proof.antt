-- `reserve` asks the allocator for room for an array of words.
use Rattle.std.proofs.Common.{◌≡◌, ℕ, ◌*◌, ◌^◌, ◌<◌, true, false, [], ◌∷◌, refl, arith, lit<, w32, w64, Some, None}
use Rattle.std.proofs.raw_atomic.Walks.{proved, leaves}
use Rattle.std.proofs.raw_atomic.Calls.{fm}
use Rattle.std.proofs.alloc.Calls.{Al, seen, Takes, at_takes, Answered, Answer-typed, Takes-goes, Takes-gives, answers}
use Rattle.std.proofs.alloc.Shapes.{after, head, arm_body}
use Rattle.std.proofs.option.Made.{Some-of, none_of}
use mir.Syntax.{Ty, Fn, Args, named, a_type, dcons, dnil, ty_int, ty_array}
use mir.Val.{Val, vcons, vnil}
use mir.MapTy.{inst_fn}
use base.Logic.{SProp, emp, id⊢}
use base.Fml.{Lft, Share, ftrue, froom, flft}
use prog.Wp.{Wp, after_seq, at_return, Env}
use contract.BorrowLft.{◌⊑◌, ⊑_trans}
use contract.Monad.{fact, fact_i}
use contract.Running.{tables}
use types.Kit.{Post as After, any_q, ‵, raw, ◌⊛◌, later, at_ret, ◌$◌, ◌∵◌, !, qed, by, move, keep, drop, use0, use1, use2, split, join, fsplit, fjoin, await}
use types.Part.{whole, agg}
use types.Match.{live, vrt, in_variant}
use types.Run.{stop, fld, lit, of_opd, bin, no_more, and_then, first, switches_on, exec, returns, enter}
use types.ByLocal.{alloc_all, pass_all, free_all, look_at, get, get_in, get_tag, sets, sets_last, lands_as, env}
use denote.Builtin.{RefOf, usize}
use denote.Exit.{yes}
use denote.Param.{param, bounded}
use denote.Plain.{uint_vals, uint_Tells}
use denote.RattleType.{RattleType, owns}
use denote.RawPtr.{Ptr, block_ptr}
use denote.Ref.{shr_vals, shr_Tells}
use denote.Signature.{plain, types_at, type_at}
use denote.Steps.{nothing, heard}
use denote.Struct.Tuple.{Tuple}
use denote.Triple.Call.{calls_at}
use denote.Triple.Walked.{Stays, stay_dropped, walk_of, Goes-dropped}
use Rattle.raw_trie.specs.Memory.{block_type}
use Rattle.raw_trie.specs.contracts.memory.Words as words
use Rattle.raw_trie.specs.contracts.memory.Lease as lease
use Rattle.raw_trie.specs.contracts.memory.Words.reserve.{ended, clauses}
use Rattle.raw_trie.specs.contracts.memory.Words.reserve.Key.{name as #self}
use Rattle.raw_trie.proofs.Values.{words_val, words_own, words_made, lease_val, lease_own, lease_made, pair_val, pair_made, size_of_block, align_of_block}
use Rattle.raw_trie.proofs.memory.Words.reserve.Statement.{statement}
use Rattle.raw_trie.proofs.memory.Words.reserve.Code as code

pub reserve_spec : {M : Type 1} → statement M
reserve_spec 𝓤 𝓛 𝓜 𝓡 wired A L g d dd met md =
    let H = 𝓛.H in let 𝓣 = tables 𝓤 H 𝓜 𝓡 𝓡.env in
    let En = ended A g d dd in let c = clauses A g d dd 𝓛 𝓜.mem 𝓡.returns in
    let args : Args = bounded (a_type ∷ []) (A, tt) (dcons d (dcons dd dnil)) in
    let fn : Fn = inst_fn args code.function in
    let Z : RattleType = param 0 A in let heap = RefOf (0 ∷ []) tt (plain (λ _. Z)) (λ _. tt) in
    let hs : Stays En.signature.params En.kept =
    (stay_dropped heap yes, (stay_dropped (plain (λ _. usize)) yes, tt)) in
    proved 𝓛 En hs c 𝓜 𝓡 (
      Goes-dropped 𝓛 2 heap yes (λ κs x f. refl),
      (Goes-dropped 𝓛 2 (plain (λ _. usize)) yes (λ κs x f. refl), tt),
    ) (#self args) fn
    (code.unfolded 𝓤 H 𝓜 𝓡 wired (A, tt) d dd)
    (λ κs. (shr_vals, (uint_vals w64, tt)))
    (λ κs. (shr_Tells (named 0) κs.0 Z, (uint_Tells w64, tt))) (λ κs qs bounds a gh are.
    let κ : Lft = κs.0 in
    let q : Share = qs.0 in
    let h = a.0.now in
    let at = a.0.ref_ptr in
    let n : ℕ = a.1.0 in
    let z : (walk_of 𝓛 En hs c).Ghost =
    ((κs, qs, bounds, a, (shr_vals a.0, (uint_vals w64 n, tt))), gh) in
    let Post : Val → SProp 𝓤 = (walk_of 𝓛 En hs c).post z in
    let Y : Al = record { row = A; laws = L; g = g; d = d; drops = dd } in
    let τ : Ty = block_type n in
    let y = at_takes Y 𝓛 𝓜.mem 𝓡.returns κ q at h (n * 4) 4 τ in
    let Out : RattleType = type_at En.signature.result κs in
    let Two : RattleType = Tuple (words.the_row ∷ lease.the_row Z g ∷ []) in
    let Asked : Type 0 = n < 2 ^ 40 in
    qed 𝓛 (((‵ (flft κ q) ⊛ ‵ (flft κs.1.0 qs.1.0) ⊛ ‵ ftrue)
    ⊛ ‵ (owns (types_at En.signature.params κs) a z.0.4)) ∷ (raw (fact 𝓤 (κs.1.0 ⊑ A.lives))
    ⊛ raw (fact 𝓤 Asked)) ∷ []) ∵
    move ! (1 ∷ []) $ split ! $ heard ! (κs.1.0 ⊑ A.lives) (λ le. heard ! Asked (λ asked.
    let bytes : n * 4 < 2 ^ 64 = omega arith in
    split ! $ split ! $ move ! (2 ∷ []) $ fsplit ! $ keep ! (0 ∷ 2 ∷ 3 ∷ []) $ fsplit ! $ drop ! $
    use1 𝓛 (‵ (seen Y κ at h)) (id⊢ 𝓤 _) $
    -- [a `&` to the handle; its token; the other tokens]
    enter ! _ _ _ _ _ $ alloc_all !
    (λ l. pass_all ! refl ((tt, tt), ((tt, record { fits = are.1.0.1 }), tt)) $
    let Ev : Env 𝓤 𝓛.H = env fn.locals l in
    let Then : After 𝓤 H =
    any_q (after_seq 𝓤 H (Wp 𝓤 H 𝓣.C 𝓣.Λ Ev (after 3 fn.body) (at_return 𝓤 H Ev Post))
    (at_return 𝓤 H Ev Post)) in
    sets ! (bin ! (get ! refl) (lit ! tt) (record { fits = bytes })) refl
    (tt, record { fits = bytes }) $
    use2 𝓛 (raw ((Takes Y 𝓛 𝓜.mem 𝓡.returns).pre y))
    (Takes-goes Y 𝓛 𝓜.mem 𝓡.returns κ q at h (⊑_trans κ κs.1.0 A.lives bounds.0 le) (n * 4) 4 τ
    (size_of_block n bytes) (align_of_block n) bytes (lit< tt)) $
    calls_at ! (fm 𝓛 𝓜 𝓡) (Takes Y 𝓛 𝓜.mem 𝓡.returns) (met.allocate dd) y
    (and_then ! (get ! refl) (and_then ! (get ! refl) (and_then ! (lit ! tt) (no_more !)))) (λ v.
    use1 𝓛 (later (raw (Answered Y 𝓛 𝓜.mem 𝓡.returns h τ v) ⊛ ‵ (flft κ q)))
    (Takes-gives Y 𝓛 𝓜.mem 𝓡.returns κ q at h (n * 4) 4 τ v) $ await ! tt $ split ! $
    answers Y ! 𝓜.mem 𝓡.returns h τ v
    (λ b o e. move ! (2 ∷ 3 ∷ []) $ join ! $ move ! (1 ∷ 2 ∷ []) $
    lands_as ! e refl (Answer-typed true b o) $
    first ! $ switches_on ! (get_tag ! (vrt ! refl (fld ! refl (stop !))) (whole !)) $
    exec ! 𝓣.C 𝓣.Λ Ev (arm_body 0 (head (after 2 fn.body))) Then $
    sets ! (of_opd ! (get_in ! (vrt ! refl (fld ! refl (stop !)))
    (in_variant ! 0 0 refl refl (whole !)))) refl (tt, tt) $
    sets ! (agg ! (no_more !)) refl (tt, tt) $
    sets ! (of_opd ! (get ! refl)) refl (tt, tt) $
    sets ! (agg ! (and_then ! (get ! refl) (no_more !))) refl (tt, (tt, tt)) $
    sets ! (agg ! (and_then ! (get ! refl) (no_more !))) refl (tt, (tt, tt)) $
    sets ! (agg ! (and_then ! (get ! refl) (and_then ! (get ! refl) (no_more !)))) refl
    (tt, ((tt, tt), ((tt, tt), tt))) $
    sets_last ! (agg ! (and_then ! (lit ! tt) (and_then ! (get ! refl) (no_more !)))) refl
    (tt, (record { fits = lit< tt }, (((tt, tt), ((tt, tt), tt)), tt))) $
    exec ! 𝓣.C 𝓣.Λ Ev (after 3 fn.body) (at_ret Ev Post) $
    sets ! (of_opd ! (get ! refl)) refl
    (tt, (record { fits = lit< tt }, (((tt, tt), ((tt, tt), tt)), tt))) $
    returns ! (look_at ! 0 refl) $ free_all ! refl $
    let p : Ptr = block_ptr b o in
    let x : (words.the_row).Denot = record { at = p; words = []; room = n } in
    let k : (lease.the_row Z g).Denot = record { by = record {}; alloc = h; at = p; room = n } in
    let u : Val = pair_val (words_val p) lease_val in
    use1 𝓛 (‵ (froom (ty_array (ty_int w32) n) b o))
    (𝓛.laws.raw-room (ty_array (ty_int w32) n) b o) $
    use0 𝓛 (‵ (words_own p (words_val p ∷ []))) (words_made 𝓛 p) $ fjoin ! $ move ! (1 ∷ []) $
    use0 𝓛 (‵ (lease_own (lease_val ∷ []))) (lease_made 𝓛) $ fjoin ! $ move ! (1 ∷ 0 ∷ []) $
    use2 𝓛 (‵ (Two.own_val (x, k) (u ∷ [])))
    (pair_made 𝓛 words.the_row (lease.the_row Z g) x k (words_val p) lease_val) $
    use1 𝓛 (‵ (Out.own_val (Some (x, k)) (live 1 (vcons u vnil) ∷ []))) (Some-of 𝓛 Two (x, k) u) $
    let Told : Type 0 = ([] ≡ x.words) × (n ≡ n) × (h ≡ h) × (p ≡ p) × (n ≡ n) in
    use0 𝓛 (raw (fact 𝓤 Told)) (fact_i 𝓤 Told (emp 𝓤) (refl, refl, refl, refl, refl)) $ nothing ! $
    nothing ! $ fjoin ! $ nothing ! $ fjoin ! $ move ! (3 ∷ 0 ∷ 2 ∷ 1 ∷ []) $
    by ! (leaves 𝓛 En hs c z (live 1 (vcons u vnil)) (Some (x, k)) (tt, (tt, tt)) (tt, (tt, tt))))
    (λ e. join ! $ lands_as ! e refl (Answer-typed false 0 0) $
    first ! $ switches_on ! (get_tag ! (vrt ! refl (fld ! refl (stop !))) (whole !)) $
    exec ! 𝓣.C 𝓣.Λ Ev (arm_body 1 (head (after 2 fn.body))) Then $
    sets_last ! (agg ! (and_then ! (lit ! tt) (no_more !))) refl
    (tt, (record { fits = lit< tt }, tt)) $
    exec ! 𝓣.C 𝓣.Λ Ev (after 3 fn.body) (at_ret Ev Post) $
    sets ! (of_opd ! (get ! refl)) refl (tt, (record { fits = lit< tt }, tt)) $
    returns ! (look_at ! 0 refl) $ free_all ! refl $
    use0 𝓛 (‵ (Out.own_val None (live 0 vnil ∷ []))) (none_of 𝓛 Two) $
    use0 𝓛 (raw (fact 𝓤 (Unit {0}))) (fact_i 𝓤 (Unit {0}) (emp 𝓤) tt) $ nothing ! $ nothing ! $
    fjoin ! $ nothing ! $ fjoin ! $ move ! (3 ∷ 0 ∷ 2 ∷ 1 ∷ []) $
    by ! (leaves 𝓛 En hs c z (live 0 vnil) None (tt, (tt, tt)) (tt, (tt, tt)))))))))
