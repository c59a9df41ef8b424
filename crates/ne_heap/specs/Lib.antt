pub mod HeapClones
pub mod HeapItems
pub mod KeptItems
pub mod ValidHeap
