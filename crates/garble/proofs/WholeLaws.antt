-- A whole garbling: what its parts start from, and that together they leave the defined bytes. Assumes nothing.
use Prim.Native.Nat.{ℕ, ◌+◌, ◌*◌, ◌≤◌}
use native.Mathlib.Omega.{arith}
use mathlib.Core.Path.{◌≡◌, sym, ap, ◌∙◌}
use mathlib.Core.Bool.{Bool, true, false}
use mathlib.Core.List.{List, ◌∷◌, ◌++◌}
use lib.ListN.{length, take, drop}
use lib.Seq.{take_all, take_at}
use Rattle.model.specs.declared.Sizes.{Sizes}
use Rattle.model.specs.declared.Wanted.{Wanted}
use Rattle.model.specs.Bytes.{tabulate, over, two}
use Rattle.model.specs.Circuit.{charges, circuit_of, inputs, outputs, gates}
use Rattle.model.specs.Aes.{Block, ◌⊕◌, aes}
use Rattle.model.specs.Tokens.{wants_hashes, garbling_of, run_block, seed_block, offset, input_zeros, one_token}
use Rattle.model.specs.Garbling.{zero_tokens, input_ones}
use Rattle.model.specs.Ending.{colours, hashes, ending_of}
use Rattle.model.specs.Material.{join_blocks, last_bytes, material_length, header, material}
use Rattle.model.specs.Operations.{file_length}
use Rattle.model.proofs.Lists.{tabulate_length, tabulate_map}
use Rattle.model.proofs.Buffers.{over_length, over_over}
use Rattle.model.proofs.Outputs.{outputs_many}
use Rattle.model.proofs.Blocks.{join_length}
use Rattle.model.proofs.Lengths.{input_zeros_blocks, header_length, material_length_law}
use Rattle.circuit.proofs.AcceptedLaws as Sized
use Rattle.garble.specs.declared.plan.Plan.{Plan}
use Rattle.garble.specs.Written.{input_zero, InputsIs}
use Rattle.garble.specs.Walk.{PlanIs, WalkOf, FrontStart, FrontIs, BodyStart, BodyIs}
use Rattle.garble.specs.Whole.{WholeStart, WholeIs}
use Rattle.garble.proofs.WalkLaws.{zeros_long}

pub front_done : (p : Plan) (n outs q : ℕ) (m z o m' z' o' : List ℕ) → InputsIs p z o z' o' → (t : Bool) → t ≡ wants_hashes p.wanted → (h : ℕ) → h ≡ (ending_of t).header_mark
    → m' ≡ over (0x47 ∷ h ∷ p.wanted.scheme ∷ two n ++ two outs ++ two q) m → FrontIs p n outs q m z o m' z' o'
front_done p n outs q m z o m' z' o' done t is_t h is_h e = record { inputs_are = done; header_is = rw (← is_t, ← is_h) e }

module _ (c seed : List ℕ) (want : Wanted) (s : Sizes) (m z o : List ℕ) (start : WholeStart c seed want s m z o) where
  is_n : s.n ≡ inputs c
  is_n = Sized.is_n c s start.sized

  is_m : s.m ≡ outputs c
  is_m = Sized.is_m c s start.sized

  is_q : s.q ≡ gates c
  is_q = Sized.is_q c s start.sized

  front_start : FrontStart s.n m z o
  unfolding file_length material_length
  front_start = record {
    header_room = omega (arith, start.file_room);
    zeros_room = omega (arith, start.wires_room, is_n);
    ones_room = omega (arith, start.inputs_room, is_n);
  }

  -- the hashes take no less room than the colours
  colours_room : (b : Bool) → outputs c ≤ last_bytes b (outputs c)
  unfolding last_bytes ending_of colours hashes
  colours_room true = omega arith
  colours_room false = omega arith

  least_room : material_length want.scheme (outputs c) (charges (circuit_of c).gates) ≤ length m
  unfolding file_length material_length
  least_room = omega (arith, start.file_room, colours_room (wants_hashes want))

  -- a seed is its own front, and its schedule is put in planes
  own_front : (k : Block) → k ≡ take 16 (drop 0 seed) → k ≡ seed
  own_front k is_k = is_k ∙ take_all 16 seed (omega (arith, start.seed_length))

  -- the seed as a block, and the plan, as they were made
  module _ (k : List ℕ) (plan : Plan) (is_k : k ≡ take 16 (drop 0 seed)) (is_plan : PlanIs k want s.n plan) where
    is_seed : k ≡ seed
    is_seed = own_front k is_k

    offset_is : plan.r.bytes ≡ offset (garbling_of c seed want)
    unfolding offset seed_block
    offset_is = is_plan.is_offset ∙ rw is_seed

    pub whole_walk : WalkOf c plan.seed.key.bytes plan.wanted plan
    whole_walk = go _ _ is_plan.is_seed is_plan.is_wanted
      where
        go : (x : List ℕ) (y : Wanted) → x ≡ k → y ≡ want → WalkOf c x y plan
        go x y e f = rw (e, f) (record { accepted = start.sized.accepted; known = start.known; plan_is = rw (← is_n) is_plan })

    pub whole_front : FrontStart plan.n m z o
    whole_front = rw is_plan.is_n front_start

    -- the fronts as they were written
    module _ (m1 z1 o1 : List ℕ) (front : FrontIs plan s.n s.m s.q m z o m1 z1 o1) where
      header_is : m1 ≡ over (header (garbling_of c seed want)) m
      unfolding header circuit_of
      header_is = front.header_is ∙ rw (is_plan.is_wanted, is_n, is_m, is_q, outputs_many c, tabulate_length)

      -- the inputs' zero tokens, by the plan
      zero_table : tabulate plan.n (input_zero plan) ≡ input_zeros (garbling_of c seed want)
      unfolding input_zeros seed_block circuit_of input_zero
      zero_table = go _ _ _ is_plan.is_seed is_plan.is_wanted is_plan.is_n
        where
          go : (x : Block) (y : Wanted) (l : ℕ) → x ≡ k → y ≡ want → l ≡ s.n
              → tabulate l (λ i. aes x (run_block y.run (i + 1))) ≡ tabulate (inputs c) (λ i. aes seed (run_block want.run (i + 1)))
          go x y l e f h = rw (e, f, h, is_seed, is_n)

      zeros_are : z1 ≡ over (join_blocks (input_zeros (garbling_of c seed want))) z
      zeros_are = front.inputs_are.zeros_left ∙ ap (λ (l : List Block). over (join_blocks l) z) zero_table

      one_table : tabulate plan.n (λ i. input_zero plan i ⊕ plan.r.bytes) ≡ input_ones (garbling_of c seed want)
      unfolding input_ones one_token
      one_table =
          sym (tabulate_map (λ (b : Block). b ⊕ plan.r.bytes) plan.n (input_zero plan)) ∙ rw (zero_table, offset_is)

      ones_are : o1 ≡ over (join_blocks (input_ones (garbling_of c seed want))) o
      ones_are = front.inputs_are.ones_left ∙ ap (λ (l : List Block). over (join_blocks l) o) one_table

      inputs_long : length (join_blocks (input_zeros (garbling_of c seed want))) ≡ 16 * inputs c
      unfolding circuit_of
      inputs_long = join_length (input_zeros_blocks (garbling_of c seed want))

      header_long : length (header (garbling_of c seed want)) ≡ 9
      header_long = header_length (garbling_of c seed want)

      material_same : length m1 ≡ length m
      material_same = ap length header_is ∙ over_length (header (garbling_of c seed want)) m (omega (arith, header_long, front_start.header_room))

      zeros_same : length z1 ≡ length z
      zeros_same = ap length zeros_are ∙ over_length (join_blocks (input_zeros (garbling_of c seed want))) z (omega (arith, inputs_long, start.wires_room))

      pub whole_body : BodyStart c plan.seed.key.bytes plan.wanted s m1 z1
      unfolding over circuit_of
      whole_body = rw (is_plan.is_seed, is_plan.is_wanted, is_seed) record {
        sized = start.sized;
        gates_start = record {
          is_q = is_q;
          file_room = rw material_same least_room;
          wires_room = rw zeros_same start.wires_room;
          header_front = rw header_is (take_at (header (garbling_of c seed want)) _ 9 header_long);
          inputs_front = rw zeros_are (take_at (join_blocks (input_zeros (garbling_of c seed want))) _ (16 * inputs c) inputs_long);
        };
        file_room = rw material_same start.file_room;
      }

      -- the body as it was written
      module _ (m2 z2 : List ℕ) (calls : ℕ) (body : BodyIs c plan.seed.key.bytes plan.wanted m1 z1 m2 z2 calls) where
        done : BodyIs c seed want m1 z1 m2 z2 calls
        done = rw (is_plan.is_seed, is_plan.is_wanted, is_seed) at body

        material_long : length (material (garbling_of c seed want)) ≡ file_length c want
        unfolding file_length
        material_long = rw (outputs_many c) at (material_length_law (garbling_of c seed want))

        header_within : 9 ≤ length (material (garbling_of c seed want))
        unfolding file_length material_length
        header_within = omega (arith, material_long)

        pub whole_done : WholeIs c seed want m z o m2 z2 o1 calls
        whole_done = record {
          material_left =
              done.material_left
              ∙ rw header_is
              (over_over (material (garbling_of c seed want)) m (header (garbling_of c seed want)) (omega (arith, header_long, header_within)) (omega (arith, material_long, start.file_room)));
          zeros_left =
              done.zeros_left
              ∙ rw zeros_are
              (over_over (join_blocks (zero_tokens (garbling_of c seed want))) z (join_blocks (input_zeros (garbling_of c seed want))) (omega (arith, inputs_long, zeros_long c seed want)) (omega (arith, zeros_long c seed want, start.wires_room)));
          ones_left = ones_are;
          calls_made = done.calls_made;
        }
