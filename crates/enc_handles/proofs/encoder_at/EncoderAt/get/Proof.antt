-- `get` lends the encoder at the pointer, and the handle follows it.
--
-- Written by scripts/make-sources from data/templates: change the text there, and not this file.
--
-- The borrow checker does not follow a raw pointer, so this is a walk of the code by hand. It names
-- the block and the offset of the handle `b` and `o`, and those of the encoder `b'` and `o'`.
use Rattle.std.proofs.Common.{Bool, true, ◌≡◌, ℕ, List, [], ◌∷◌, refl, sym, ap, ◌∙◌, MutBor}
use Rattle.std.proofs.raw_atomic.Walks.{proved}
use base.Fraction.{full_share}
use base.Logic.{ent, sep, id⊢}
use base.Fml.{GName, ftrue, fsep, flft}
use seplogic.Ra.Ura.{Ura}
use mir.Syntax.{named}
use mir.Val.{Val, vptr}
use contract.Running.{tables}
use contract.Monad.{fact}
use types.Logic.{Logic, sem}
use types.Kit.{‵, raw, ◌⊛◌, some, later, at_ret, ◌$◌, ◌∵◌, !, qed, by, done, move, keep, drop, use1}
use types.Kit.{split, join, fsplit, fsplit3, fjoin, fpack, feq_i, pick, await, rewrite, suffices, frame}
use types.Kit.{group}
use types.Part.{whole, sub, look_in}
use types.Run.{enter, of_opd, load, addr, stop, fld, first, blocks, exec, returns}
use types.ByLocal.{alloc_all, pass_all, free_all, look_at, get, through, sets, sets_last, env}
use denote.RattleType.{Valss}
use denote.Builtin.{RawPtr}
use denote.Laws.{shows}
use denote.Follow.{follows, Part, lends_Part}
use denote.Memory.{mem, cell_at, part_at, part_of}
use denote.RawPtr.{Ptr, block_ptr, ptr_val, lies_at, in_a_block}
use denote.Ref.{MutRef, mut_vals, mut_Tells}
use denote.Signature.{plain, mut_ref_to}
use denote.Struct.Struct.{within}
use denote.Struct.Owning.{shape}
use denote.Steps.{nothing, heard, opens, peeks}
use denote.Exit.{no}
use denote.Triple.Walked.{Stays, walk_of, says, stay_dropped, Goes-spent_ref, ends_at}
use Rattle.std.proofs.VecSteps.Shapes.{after}
use Rattle.enc_handles.proofs.HandleLemmas.{word}
use Rattle.enc_handles.specs.Contents.{encoder_contents as contents}
use Rattle.enc_handles.specs.Handles.{with_encoder as with_value}
use Rattle.enc_handles.specs.declared.encoder_at.EncoderAt.{EncoderAt}
use Rattle.enc_stream.specs.contracts.encoder.Encoder.{the_row as T}
use Rattle.enc_handles.specs.contracts.encoder_at.EncoderAt.{the_row as R, the_type}
use Rattle.enc_handles.proofs.encoder_at.EncoderAt.TheLaws.{lowers}
use Rattle.enc_handles.specs.contracts.encoder_at.EncoderAt.get as f
use Rattle.enc_handles.proofs.encoder_at.EncoderAt.get.Statement.{statement}
use Rattle.enc_handles.proofs.encoder_at.EncoderAt.get.Code as code

abbrev stayed : Stays f.ended.signature.params f.ended.kept
stayed = (stay_dropped (mut_ref_to (0 ∷ []) tt (plain (λ _. R))) no, tt)

-- with any value at its pointer the handle is whole
back : {M : Type 1} {𝓤 : Ura M} (𝓛 : Logic 𝓤) (handle : EncoderAt) (b o b' o' : ℕ)
    → handle.ready ≡ true → handle.at ≡ block_ptr b' o' → (value : T.Denot)
    → ent 𝓤 (sep 𝓤 (sem 𝓛 ((mem T).own_at value b' o'))
    (sem 𝓛 (cell_at full_share R.mir (word b' o') b o)))
    (sem 𝓛 ((mem R).own_at (with_value handle value) b o))
unfolding part_of
back 𝓛 handle b o b' o' ready e value =
    qed 𝓛 (‵ (part_at T full_share value b' o')
    ∷ ‵ (cell_at full_share R.mir (word b' o') b o) ∷ [])
    ∵
    rewrite ! 0 (λ (p : Ptr). ‵ (lies_at T full_share p value)) (sym e) refl $
    rewrite ! 0 (λ (r : Bool). ‵ (contents r handle.at value)) (sym ready) refl $
    nothing ! $
    feq_i ! (List Val) (vptr b' o' ∷ []) (ptr_val handle.at ∷ [])
    (ap (λ (p : Ptr). ptr_val p ∷ []) (sym e)) $ fjoin ! $
    feq_i ! (List Val) (word b' o') (word b' o') refl $ fjoin ! $
    fpack ! (Valss (RawPtr ∷ [])) (within (shape the_type) (handle.at, tt) (word b' o'))
    (vptr b' o' ∷ [], tt) $ fjoin ! $
    move ! (1 ∷ 0 ∷ []) $ fjoin ! $
    fpack ! (List Val) (λ us. fsep (cell_at full_share R.mir us b o)
    (R.own_val (with_value handle value) us)) (word b' o') $ done !

pub get_spec : {M : Type 1} → statement M
get_spec 𝓤 𝓛 𝓜 𝓡 wired =
    let clauses = f.clauses 𝓛 𝓜.mem 𝓡.returns in
    let walk = walk_of 𝓛 f.ended stayed clauses in
    let code_tables = tables 𝓤 𝓛.H 𝓜 𝓡 𝓡.env in
    proved 𝓛 f.ended stayed clauses 𝓜 𝓡 (Goes-spent_ref 𝓛 1 (0 ∷ []) tt (plain (λ _. R)), tt)
    f.Key.name code.function (code.unfolded 𝓤 𝓛.H 𝓜 𝓡 wired)
    (λ κs. (mut_vals, tt)) (λ κs. (mut_Tells (named 0) κs.0 R, tt)) (λ κs qs bounds args _ are.
    let b = args.0.ref_ptr.0 in let o = args.0.ref_ptr.1 in
    let handle = args.0.now in let vs = mut_vals args.0 in let γ = args.0.ghost_name in
    let ghosts : walk.Ghost = ((κs, qs, bounds, args, (vs, tt)), tt) in
    qed 𝓛 (((‵ (flft κs.0 qs.0) ⊛ ‵ ftrue)
    ⊛ ‵ ((MutRef (named 0) κs.0 R).own_val args.0 vs) ⊛ ‵ ftrue)
    ∷ raw (fact 𝓤 (handle.ready ≡ true)) ∷ []) ∵
    split ! $ split ! $ move ! (2 ∷ []) $ split ! $ keep ! (4 ∷ 0 ∷ 2 ∷ []) $
    heard ! _ (λ ready.
    enter ! _ _ _ _ _ $ alloc_all ! (λ l. pass_all ! refl ((tt, tt), tt) $
    fsplit3 ! $ move ! (1 ∷ 2 ∷ 3 ∷ []) $ opens ! tt R b o (λ us.
    move ! (1 ∷ []) $ peeks ! R _ (shows 𝓛 R) handle us (λ is. fsplit ! $ drop ! $
    rewrite ! 0 (λ (r : Bool). ‵ (contents r handle.at handle.value)) ready refl $
    in_a_block ! handle.at (λ p. lies_at T full_share p handle.value) (id⊢ 𝓤 _) (λ b' o' e.
    let is_word = lowers.val_is handle us is
    ∙ ap (λ (p : Ptr). lowers.lowered (record handle { at = p }) ∷ []) e in
    rewrite ! 1 (λ (ws : List Val). ‵ (cell_at full_share R.mir ws b o)) is_word refl $
    -- [the value; the handle's cell; the open borrow, in three entries; the locals]
    first ! $ blocks ! $
    sets ! (of_opd ! (load ! (through ! refl (fld ! refl (stop !)))
    (look_in ! 1 (sub ! 0 refl (whole !))))) refl (tt, tt) $
    sets ! (of_opd ! (get ! refl)) refl (tt, tt) $
    sets_last ! (addr ! (through ! refl (stop !))) refl (tt, tt) $
    exec ! code_tables.C code_tables.Λ (env code.Mir.locals l) (after 1 (code.function).body)
    (at_ret _ (walk.post ghosts)) $
    sets ! (of_opd ! (get ! refl)) refl (tt, tt) $
    move ! (2 ∷ 3 ∷ 4 ∷ 0 ∷ 1 ∷ []) $ group ! 5 $
    let cell = sem 𝓛 (cell_at full_share R.mir (word b' o') b o) in
    let is_back = back 𝓛 handle b o b' o' ready e in
    use1 𝓛 (later (some (λ (γ' : GName). raw (Part 𝓛 R T (with_value handle) (named 0) κs.0 qs.0
    b o b' o' γ cell is_back handle.value γ'))))
    (lends_Part 𝓛 R T (with_value handle) (named 0) κs.0 qs.0 b o b' o' γ cell is_back
    (R.coded.code handle) (R.coded.code handle) handle.value) $
    await ! tt $ pick ! (λ γ'.
    returns ! (look_at ! 0 refl) $ free_all ! refl $ keep ! (0 ∷ []) $
    let lent : MutBor T.Denot =
    record { ref_ptr = (b', o'); ghost_name = γ'; now = handle.value } in
    by ! (qed 𝓛 (‵ ((MutRef (named 0) κs.0 T).own_val lent (vptr b' o' ∷ []))
    ∷ ‵ (flft κs.0 qs.0) ∷ ‵ (follows R T γ γ' (with_value handle)) ∷ []) ∵
    suffices ! _ (ends_at 𝓛 f.ended stayed clauses ghosts (vptr b' o') lent (tt, tt) (tt, tt)) $
    nothing ! $ nothing ! $ fjoin ! $ join ! $ nothing ! $ move ! (2 ∷ 0 ∷ []) $ join ! $
    join ! $ frame ! $ says ! refl $ done !))))))))
