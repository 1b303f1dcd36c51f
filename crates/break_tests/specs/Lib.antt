pub mod TestedSegmenter
