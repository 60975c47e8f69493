mod ConstantLoops
