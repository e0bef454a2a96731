-- `put` writes an encoder at the pointer.
--
-- Written by scripts/make-sources from data/templates: change the text there, and not this file.
--
-- The borrow checker does not follow a raw pointer, so this is a walk of the code by hand. It names
-- the block and the offset of the handle `b` and `o`, and those of the encoder `b'` and `o'`.
use Rattle.std.proofs.Common.{◌≡◌, Bool, true, false, List, [], ◌∷◌, ◌++◌, refl, sym, ap, ◌∙◌, subst}
use Rattle.std.proofs.raw_atomic.Walks.{proved_at, leaves}
use base.Fraction.{full_share}
use base.Logic.{SProp, ent, emp, never_e, id⊢}
use base.Fml.{ftrue, fat, flft}
use seplogic.Ra.Ura.{Ura}
use denote.Laws.{shows}
use mir.Val.{Val, vptr, vunit}
use prog.Wp.{WpFn}
use contract.Running.{tables}
use contract.Monad.{fact, fact_i}
use types.Logic.{Logic, sem}
use types.Kit.{‵, raw, ◌⊛◌, some, at_ret, ◌$◌, ◌∵◌, !, qed, by, move, keep, drop, use0, use1, use2}
use types.Kit.{split, join, fsplit, fsplit3, fjoin, fjoin3, fpack, feq_i, pick, rewrite, suffices}
use types.Part.{whole, sub, look_in}
use types.Run.{enter, of_opd, unit_lit, load, init, stop, fld, first, blocks, exec, returns, assigns_last}
use types.ByLocal.{alloc_all, pass_all, free_all, look_at, get, through, sets, env}
use denote.RattleType.{Valss, owns}
use denote.Builtin.{RawPtr}
use denote.Memory.{cell_at, part_at, lone}
use denote.RawPtr.{Ptr, block_ptr, null_ptr, ptr_val, lies_at, room_at, in_a_block}
use denote.Signature.{plain, types_at}
use denote.Struct.Struct.{within}
use denote.Struct.Owning.{shape}
use denote.Steps.{nothing, opens, closes, peeks}
use denote.Exit.{yes}
use denote.Triple.Walked.{Stays, walk_of, stay_ref, stay_dropped, Goes-ref, Goes-dropped}
use borrow.Table.OneValue.{part_out, part_in}
use Rattle.std.proofs.VecSteps.Shapes.{after}
use Rattle.enc_handles.proofs.HandleLemmas.{word, one}
use Rattle.enc_handles.specs.Contents.{encoder_contents as contents}
use Rattle.enc_handles.specs.declared.encoder_at.EncoderAt.{EncoderAt}
use Rattle.enc_stream.specs.contracts.encoder.Encoder.{the_row as T}
use Rattle.enc_stream.proofs.encoder.Encoder.TheLaws.{the_row_laws}
use Rattle.enc_handles.specs.contracts.encoder_at.EncoderAt.{the_row as R, the_type}
use Rattle.enc_handles.proofs.encoder_at.EncoderAt.TheLaws.{lowers}
use Rattle.enc_handles.specs.contracts.encoder_at.EncoderAt.put as f
use Rattle.enc_handles.proofs.encoder_at.EncoderAt.put.Statement.{statement}
use Rattle.enc_handles.proofs.encoder_at.EncoderAt.put.Code as code

abbrev stayed : Stays f.ended.signature.params f.ended.kept
stayed = (stay_ref (0 ∷ []) tt (plain (λ _. R)), (stay_dropped (plain (λ _. T)) yes, tt))

-- what lies at the pointer is room for another value
to_room : {M : Type 1} {𝓤 : Ura M} (𝓛 : Logic 𝓤) (ready : Bool) (p : Ptr) (value : T.Denot)
    → ent 𝓤 (sem 𝓛 (contents ready p value)) (sem 𝓛 (room_at T p))
to_room {𝓤 = 𝓤} 𝓛 false p value = id⊢ 𝓤 _
to_room {𝓤 = 𝓤} 𝓛 true null_ptr value = never_e 𝓤 _
to_room {𝓤 = 𝓤} 𝓛 true (block_ptr b o) value =
    qed 𝓛 (‵ (part_at T full_share value b o) ∷ []) ∵
    use1 𝓛 (some (λ (v : Val). ‵ (fat full_share (lone T.mir) b o v)
    ⊛ ‵ (T.own_val value (v ∷ []))))
    (part_out 𝓛 T refl full_share value b o) $
    pick ! (λ v. split ! $ keep ! (0 ∷ []) $ by ! (𝓛.laws.at_room (lone T.mir) b o v))

pub put_spec : {M : Type 1} → statement M
put_spec 𝓤 𝓛 𝓜 𝓡 wired =
    let clauses = f.clauses 𝓛 𝓜.mem 𝓡.returns in
    let walk = walk_of 𝓛 f.ended stayed clauses in
    let code_tables = tables 𝓤 𝓛.H 𝓜 𝓡 𝓡.env in
    proved_at 𝓛 f.ended stayed clauses 𝓜 𝓡 (
      Goes-ref 𝓛 1 0 tt (plain (λ _. R)),
      (Goes-dropped 𝓛 1 (plain (λ _. T)) yes (λ κs x w. refl), tt),
    )
    f.Key.name code.function (code.unfolded 𝓤 𝓛.H 𝓜 𝓡 wired) (λ ghosts are.
    let κs = ghosts.0.0 in let qs = ghosts.0.1 in
    let args = ghosts.0.3 in let vss = ghosts.0.4 in
    let b = args.0.ref_ptr.0 in let o = args.0.ref_ptr.1 in
    let handle = args.0.now in let new = args.1.0 in
    let got = one (lone T.mir) vss.1.0 ((the_row_laws.lawful 𝓛).typed new vss.1.0 are.1.0) in
    let us = vptr b o ∷ got.0 ∷ [] in
    let Runs : List Val → SProp 𝓤 =
    λ ws. WpFn 𝓤 𝓛.H code_tables.C code_tables.Λ code.function ws (walk.post ghosts) in
    qed 𝓛 (((‵ (flft κs.0 qs.0) ⊛ ‵ ftrue)
    ⊛ ‵ (owns (types_at f.ended.signature.params κs) args vss))
    ∷ ‵ ftrue ∷ []) ∵
    split ! $ split ! $ move ! (2 ∷ []) $ fsplit3 ! $ fsplit3 ! $
    keep ! (1 ∷ 2 ∷ 5 ∷ 3 ∷ []) $
    rewrite ! 3 (λ (ws : List Val). ‵ (T.own_val new ws)) got.1 refl $
    suffices ! (Runs us) (subst (λ (ws : List Val). ent 𝓤 (Runs us) (Runs ws))
    (sym (λ i. are.0.0 i ++ (got.1 i ++ []))) (id⊢ 𝓤 (Runs us))) $
    enter ! code_tables.C code_tables.Λ code.function us (walk.post ghosts) $
    alloc_all ! (λ l. pass_all ! refl ((tt, tt), (got.2, tt)) $
    opens ! tt R b o (λ ts. move ! (1 ∷ []) $ peeks ! R _ (shows 𝓛 R) handle ts (λ is.
    fsplit ! $ drop ! $
    use1 𝓛 (‵ (room_at T handle.at)) (to_room 𝓛 handle.ready handle.at handle.value) $
    in_a_block ! handle.at (λ p. room_at T p) (id⊢ 𝓤 _) (λ b' o' e.
    let is_word = lowers.val_is handle ts is
    ∙ ap (λ (p : Ptr). lowers.lowered (record handle { at = p }) ∷ []) e in
    rewrite ! 1 (λ (ws : List Val). ‵ (cell_at full_share R.mir ws b o)) is_word refl $
    -- [the room; the handle's cell; the open borrow, in three entries; the value; the locals]
    first ! $ blocks ! $
    sets ! (of_opd ! (load ! (through ! refl (fld ! refl (stop !)))
    (look_in ! 1 (sub ! 0 refl (whole !))))) refl (tt, tt) $
    sets ! (of_opd ! (get ! refl)) refl (tt, tt) $
    sets ! (of_opd ! (get ! refl)) refl got.2 $
    assigns_last ! (of_opd ! (get ! refl)) (through ! refl (stop !)) (init ! 0 refl got.2) $
    exec ! code_tables.C code_tables.Λ (env code.Mir.locals l) (after 1 (code.function).body)
    (at_ret _ (walk.post ghosts)) $
    sets ! (of_opd ! (unit_lit !)) refl (tt, tt) $
    move ! (0 ∷ 5 ∷ []) $
    use2 𝓛 (‵ (part_at T full_share new b' o')) (part_in 𝓛 T refl full_share new b' o' got.0) $
    rewrite ! 0 (λ (p : Ptr). ‵ (lies_at T full_share p new)) (sym e) refl $
    nothing ! $
    feq_i ! (List Val) (vptr b' o' ∷ []) (ptr_val handle.at ∷ [])
    (ap (λ (p : Ptr). ptr_val p ∷ []) (sym e)) $ fjoin ! $
    feq_i ! (List Val) (word b' o') (word b' o') refl $ fjoin ! $
    fpack ! (Valss (RawPtr ∷ [])) (within (shape the_type) (handle.at, tt) (word b' o'))
    (vptr b' o' ∷ [], tt) $ fjoin ! $
    let left : EncoderAt = record { at = handle.at; ready = true; value = new } in
    move ! (1 ∷ []) $ closes ! tt R left (word b' o') b o $
    -- [two parts of self; the token; the locals]
    returns ! (look_at ! 0 refl) $ free_all ! refl $
    feq_i ! (List Val) vss.0 (vptr b o ∷ []) are.0.0 $ fjoin3 ! $
    nothing ! $ nothing ! $ fjoin ! $
    move ! (1 ∷ 0 ∷ []) $ fjoin ! $
    nothing ! $ move ! (2 ∷ 0 ∷ []) $ join ! $
    let Put : Type 0 = (left.ready ≡ true) × (left.value ≡ new) in
    use0 𝓛 (raw (fact 𝓤 Put)) (fact_i 𝓤 Put (emp 𝓤) (refl, refl)) $
    feq_i ! (List Val) (vunit ∷ []) (vunit ∷ []) refl $
    move ! (2 ∷ 3 ∷ 0 ∷ 1 ∷ []) $
    by ! (leaves 𝓛 f.ended stayed clauses ghosts vunit tt (left, (tt, tt)) (tt, (tt, tt))))))))
